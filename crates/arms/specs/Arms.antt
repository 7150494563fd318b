-- The arms of dust along a horizontal facing: "1 None, 2 Side, 3 Up".
-- Assumes nothing.
use Rattle.std.specs.Prelude.{Bool, false, cond, not, ◌&&◌, ◌||◌, ℕ, eqb}
use Rattle.blocks.specs.Kind.{Air, is_dust, is_source, is_diode}
use Rattle.columns.specs.Column.{Bytes}
use Rattle.columns.specs.First.{on_found}
use Rattle.places.specs.declared.Pos.{Pos}
use Rattle.places.specs.Places.{is_horizontal, opposite, beside, above, below}
use Rattle.world.specs.Rows.{pos_of, kind_of, facing_of, stored_arm}
use Rattle.world.specs.Find.{find, kind_at}
use Rattle.traits.specs.Traits.{traits_at, ArmNone, ArmSide, is_arm}

-- ---- inferred

-- "Lever, button, plate, torch and redstone block connect; repeater and comparator only along their facing": row i, along f
unfoldable pub connects : Bytes → ℕ → ℕ → Bool
connects t f i =
    is_source (kind_of t i)
    || (is_diode (kind_of t i) && (not (eqb (facing_of t i) 0) && (eqb (facing_of t i) f || eqb (facing_of t i) (opposite f))))

-- what stands at q connects to dust along f
unfoldable pub component_connects : Bytes → Pos → ℕ → Bool
component_connects t q f = on_found (connects t f) false (find t q)

-- "dust or a connecting component beside"
unfoldable pub joins : Bytes → Pos → ℕ → Bool
joins t side f = is_dust (kind_at t side) || component_connects t side f

-- "a block beside with a rise, dust on top of it and no blocker above this dust", which is at q
unfoldable pub rises : Bytes → Bytes → Pos → Pos → Bool
rises p t q side =
    is_arm (traits_at p t side).rise && is_dust (kind_at t (above side)) && not (traits_at p t (above q)).blocks

-- "empty beside with dust below it"
unfoldable pub drops : Bytes → Pos → Bool
drops t side = eqb (kind_at t side) Air && is_dust (kind_at t (below side))

-- "tests in order: .. gives Side; .. gives that rise; .. gives Side; else None", of dust at q, past the cell beside it along f
unfoldable pub infer_past : Bytes → Bytes → Pos → Pos → ℕ → ℕ
infer_past p t q side f =
    cond (joins t side f) ArmSide
    (cond (rises p t q side) (traits_at p t side).rise (cond (drops t side) ArmSide ArmNone))

-- along a facing that is not horizontal there is no arm
unfoldable pub infer_wire_connection : Bytes → Bytes → Pos → ℕ → ℕ
infer_wire_connection p t q f = cond (is_horizontal f) (infer_past p t q (beside q f) f) ArmNone

-- ---- stored or inferred

-- "an arm is the stored entry, or inferred where there is no entry, even in a stored set"; only dust has arms
unfoldable pub arm_of : Bytes → Bytes → ℕ → ℕ → ℕ
arm_of p t i f =
    cond (is_dust (kind_of t i))
    (cond (eqb (stored_arm t i f) 0) (infer_wire_connection p t (pos_of t i) f) (stored_arm t i f))
    ArmNone

unfoldable pub has_arm : Bytes → Bytes → ℕ → ℕ → Bool
has_arm p t i f = is_arm (arm_of p t i f)

-- the arm of what stands at q
unfoldable pub resolved_wire_connection : Bytes → Bytes → Pos → ℕ → ℕ
resolved_wire_connection p t q f = on_found (λ i. arm_of p t i f) ArmNone (find t q)

unfoldable pub wire_has_arm : Bytes → Bytes → Pos → ℕ → Bool
wire_has_arm p t q f = is_arm (resolved_wire_connection p t q f)
