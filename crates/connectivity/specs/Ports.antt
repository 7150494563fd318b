-- The five position functions: "Output is the facing side, input the opposite one, sides the two across; missing, Up or Down
-- facing gives none".
-- Assumes nothing.
use Rattle.std.specs.Prelude.{cond, ◌||◌, ℕ, eqb, Option, Some, None}
use Rattle.blocks.specs.Kind.{Repeater, Comparator}
use Rattle.columns.specs.declared.Found.{Found}
use Rattle.columns.specs.declared.Found.TheVariants.{At, Nothing}
use Rattle.columns.specs.Column.{Bytes}
use Rattle.columns.specs.First.{on_found}
use Rattle.places.specs.declared.Pos.{Pos}
use Rattle.places.specs.Places.{North, East, South, West, opposite, is_horizontal, beside}
use Rattle.world.specs.Rows.{pos_of, kind_of, facing_of}
use Rattle.world.specs.Find.{find}

-- ---- of a row, whatever its kind

-- the place beside q along a horizontal facing; "missing, Up or Down facing gives none"
unfoldable pub ahead : Pos → ℕ → Option Pos
ahead q f = cond (is_horizontal f) (Some (beside q f)) None

-- "Output is the facing side"
unfoldable pub output_of : Bytes → ℕ → Option Pos
output_of t i = ahead (pos_of t i) (facing_of t i)

-- "input the opposite one"
unfoldable pub input_of : Bytes → ℕ → Option Pos
input_of t i = ahead (pos_of t i) (opposite (facing_of t i))

-- "sides the two across", of a block at q that has the facing f
unfoldable pub across : Pos → ℕ → Option (Pos × Pos)
across q f =
    cond (eqb f North || eqb f South) (Some (beside q East, beside q West))
    (cond (eqb f East || eqb f West) (Some (beside q North, beside q South)) None)

unfoldable pub sides_of : Bytes → ℕ → Option (Pos × Pos)
sides_of t i = across (pos_of t i) (facing_of t i)

-- ---- of what stands at a position

-- the row that stands at q, if it is of the kind k
unfoldable pub of_kind : Bytes → Pos → ℕ → Found
of_kind t q k = on_found (λ i. cond (eqb (kind_of t i) k) (At i) Nothing) Nothing (find t q)

-- the four are only of their own kind
unfoldable pub repeater_input_pos : Bytes → Pos → Option Pos
repeater_input_pos t q = on_found (input_of t) None (of_kind t q Repeater)

unfoldable pub repeater_output_pos : Bytes → Pos → Option Pos
repeater_output_pos t q = on_found (output_of t) None (of_kind t q Repeater)

unfoldable pub comparator_input_pos : Bytes → Pos → Option Pos
comparator_input_pos t q = on_found (input_of t) None (of_kind t q Comparator)

unfoldable pub comparator_output_pos : Bytes → Pos → Option Pos
comparator_output_pos t q = on_found (output_of t) None (of_kind t q Comparator)

-- of a block of any kind that has a horizontal facing
unfoldable pub device_side_positions : Bytes → Pos → Option (Pos × Pos)
device_side_positions t q = on_found (sides_of t) None (find t q)
