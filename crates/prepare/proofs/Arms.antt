-- Laws: the arms that are read off the columns of an accepted table are the table's.
-- Assumes nothing.
use mathlib.Core.Path.{◌≡◌, refl, ap₂, ◌∙◌}
use mathlib.Core.Bool.{Bool, true, false, cond, and_assoc}
use mathlib.Core.Logic.{by_cases}
use Prim.Native.Nat.{ℕ, ◌+◌, ◌-◌, ◌%◌, ◌≤◌, ◌<◌}
use native.Mathlib.Decide.{dec_lt}
use native.Mathlib.Omega.{arith}
use lib.ListN.{length, get_or-eq_default}
use lib.Dec.{eqb}
use borrow.Author.Tests.{ne_eqb}
use Rattle.columns.specs.Column.{Bytes, row}
use Rattle.columns.specs.First.{on_found}
use Rattle.columns.specs.declared.Found.{Found}
use Rattle.columns.specs.declared.Found.TheVariants.{At, Nothing}
use Rattle.columns.proofs.Columns.{length_tabulate, row_tabulate, same_rule}
use Rattle.blocks.specs.Kind.{Air, is_dust}
use Rattle.blocks.specs.Profile.{torch_charges_above}
use Rattle.places.specs.declared.Pos.{Pos}
use Rattle.places.specs.Places.{North, East, South, West, is_horizontal, beside, above}
use Rattle.world.specs.Rows.{rows, pos_of, kind_of, stored_arm}
use Rattle.world.specs.Find.{find, kind_at}
use Rattle.world.proofs.Finding.{found_stands}
use Rattle.traits.specs.Traits.{nothing, traits, traits_at}
use Rattle.refusals.specs.Accepted.{Table}
use Rattle.arms.specs.Arms.{connects, component_connects, joins, rises, drops, infer_past, infer_wire_connection, arm_of}
use Rattle.classes.specs.Class.{blocks_in, kind_in}
use Rattle.classes.specs.Towards.{places, Above}
use Rattle.circuit.specs.Circuit.{no_row, beside_in}
use Rattle.adjacency.specs.Adjacency.{place_by, row_by, near_of}
use Rattle.prepare.specs.Classes.{bit, armless, arm_bits, arms_along, class_of, armless_of, classes_of}
use Rattle.prepare.specs.Arms.{joins_in, rises_in, infer_in, arm_past, arm_from, arms_from, with_arms}
use Rattle.prepare.proofs.Decoded.{no_arm, rise_number, kind_number, facing_number, stored_small, all_arms, Decoded, decoded_with}
use Rattle.prepare.proofs.Rows.{or_no_row, beside_by}
use Rattle.prepare.proofs.Along.{less_one}

-- the class of row i before its arms are known
abbrev bare : Bytes → Bytes → ℕ → ℕ
bare p t i = row (armless_of p t) i

-- the row at place k by row j
abbrev by : Bytes → Bytes → ℕ → ℕ → ℕ
by p t j k = beside_in (near_of t) (armless_of p t) j k

-- the class of the row found shows what was found, and air where nothing was
record Shows (p t : Bytes) (x : Found) : Type 0 where
  blocks : blocks_in (bare p t (or_no_row x)) ≡ (on_found (traits p t) nothing x).blocks
  kind : kind_in (bare p t (or_no_row x)) ≡ on_found (kind_of t) Air x

module _ (p t : Bytes) where
  pub length_armless : length (armless_of p t) ≡ rows t
  unfolding armless_of
  length_armless = length_tabulate (rows t) 0 (armless p t)

  bare_is : (i : ℕ) → i < rows t → bare p t i ≡ armless p t i
  unfolding armless_of
  bare_is i l = row_tabulate (rows t) (armless p t) i l

  bare_past : (i : ℕ) → rows t ≤ i → bare p t i ≡ 0
  bare_past i h = get_or-eq_default (armless_of p t) 0 (rw length_armless h)

  by_is : (j k : ℕ) → j < rows t → k < places → by p t j k ≡ row_by t j k
  by_is = beside_by t (armless_of p t) length_armless

module _ (p t : Bytes) (table : Table t) where
  bare_at : (i : ℕ) → i < rows t → Decoded (λ _. 0) p t i (bare p t i)
  bare_at i l =
      let e : bare p t i ≡ armless p t i + 0 = bare_is p t i l ∙ omega arith in
      rw e (decoded_with p t table i l (λ _. 0) (λ _. omega arith))

  shows : (q : Pos) → Shows p t (find t q)
  shows q = go (find t q) refl
    where
      go : (x : Found) → find t q ≡ x → Shows p t x
      go (At j) e = let d = bare_at j (found_stands t q j e).0 in record { blocks = d.blocks; kind = d.kind }
      go Nothing e = let none = bare_past p t no_row (omega (arith, table.few)) in record { blocks = rw none; kind = rw none }

  -- the row above row j
  over : (j : ℕ) → j < rows t → by p t j Above ≡ or_no_row (find t (above (pos_of t j)))
  unfolding row_by place_by
  over j l = by_is p t j Above l (omega arith)

  -- where row a stands beside row i along f
  module _ (i f a : ℕ) (hi : i < rows t) (found : find t (beside (pos_of t i) f) ≡ At a) where
    abbrev q : Pos
    q = pos_of t i

    abbrev side : Pos
    side = beside q f

    ha : a < rows t
    ha = (found_stands t side a found).0

    joins-in : joins_in (bare p t a) f ≡ joins t side f
    unfolding joins component_connects connects kind_at
    joins-in = let d = bare_at a ha in rw (d.kind, d.facing, found)

    rises-in : rises_in (near_of t) (armless_of p t) i a ≡ rises p t q side
    unfolding rises_in rises kind_at traits_at
    rises-in =
        rw (
          over a ha,
          over i hi,
          (found_stands t side a found).1,
          (shows (above side)).kind,
          (shows (above q)).blocks,
          (bare_at a ha).rise,
          found,
          less_one (rise_number p t a) no_arm,
          and_assoc,
        )

    infer-in : is_horizontal f ≡ true → infer_in (near_of t) (armless_of p t) i f a ≡ infer_wire_connection p t q f - 1
    unfolding infer_in infer_wire_connection infer_past drops kind_at traits_at
    infer-in level =
        rw (level, joins-in, rises-in, (bare_at a ha).rise, found, ne_eqb (kind_of t a) Air (omega (arith, (kind_number t table a ha).0)))
        (go (joins t side f) (rises p t q side))
      where
        go : (j r : Bool) → cond j 1 (cond r ((traits p t a).rise - 1) 0) ≡ cond j 2 (cond r (traits p t a).rise 1) - 1
        go true r = refl
        go false true = refl
        go false false = refl

    arm-past : is_horizontal f ≡ true → is_dust (kind_of t i) ≡ true → arm_past t (near_of t) (armless_of p t) i f a ≡ arm_of p t i f - 1
    unfolding arm_past arm_of
    arm-past level dust = rw dust (go (eqb (stored_arm t i f) 0))
      where
        go : (b : Bool)
            → cond b (infer_in (near_of t) (armless_of p t) i f a) ((stored_arm t i f - 1) % 4)
            ≡ cond b (infer_wire_connection p t q f) (stored_arm t i f) - 1
        go true = infer-in level
        go false = omega (arith, stored_small t table i hi f)

  module _ (i : ℕ) (hi : i < rows t) where
    arm-from : is_dust (kind_of t i) ≡ true → (f : ℕ) → is_horizontal f ≡ true → by p t i (f - 1) ≡ or_no_row (find t (beside (pos_of t i) f))
        → arm_from t (near_of t) (armless_of p t) i f ≡ arm_bits p t i f
    unfolding arm_from arm_bits
    arm-from dust f level e = rw e (go (find t (beside (pos_of t i) f)) refl)
      where
        go : (x : Found) → find t (beside (pos_of t i) f) ≡ x
            → cond (eqb (or_no_row x) no_row) 0 (arm_past t (near_of t) (armless_of p t) i f (or_no_row x)) ≡ on_found (λ _. arm_of p t i f - 1) 0 x
        go (At a) g = rw (ne_eqb a no_row (omega (arith, (found_stands t _ a g).0, table.few))) (arm-past i f a hi g level dust)
        go Nothing g = refl

    no_arm_from : is_dust (kind_of t i) ≡ false → (f : ℕ) → arm_bits p t i f ≡ 0
    unfolding arm_bits arm_of
    no_arm_from e f = rw e (go (find t (beside (pos_of t i) f)))
      where
        go : (x : Found) → on_found {A = ℕ} (λ _. 0) 0 x ≡ 0
        go (At j) = refl
        go Nothing = refl

    arms-from : arms_from t (near_of t) (armless_of p t) i ≡ arms_along p t i
    unfolding arms_from arms_along row_by place_by
    arms-from = rw (bare_at i hi).kind (go (is_dust (kind_of t i)) refl)
      where
        go : (b : Bool) → is_dust (kind_of t i) ≡ b → cond b (all_arms (arm_from t (near_of t) (armless_of p t) i)) 0 ≡ all_arms (arm_bits p t i)
        go true dust =
            rw (
              arm-from dust North refl (by_is p t i 0 hi (omega arith)),
              arm-from dust East refl (by_is p t i 1 hi (omega arith)),
              arm-from dust South refl (by_is p t i 2 hi (omega arith)),
              arm-from dust West refl (by_is p t i 3 hi (omega arith)),
            )
        go false e = rw (no_arm_from e North, no_arm_from e East, no_arm_from e South, no_arm_from e West)

  -- the classes with the arms that the columns give are the table's
  pub with-arms : with_arms t (near_of t) (armless_of p t) ≡ classes_of p t
  unfolding with_arms classes_of class_of
  with-arms = rw (length_armless p t) (same_rule (rows t) _ _ (λ i l. ap₂ ◌+◌ (bare_is p t i l) (arms-from i l)))

  -- a class before its arms are known has 24 bits
  pub armless_small : (i : ℕ) → bare p t i < 16777216
  unfolding armless
  armless_small i = by_cases (dec_lt i (rows t)) inside (λ n. rw (bare_past p t i (omega arith)) (omega arith))
    where
      bit_few : (v : ℕ) (b : Bool) → bit v b ≤ v
      bit_few v true = omega arith
      bit_few v false = omega arith

      inside : i < rows t → bare p t i < 16777216
      inside l =
          let r = traits p t i in
          rw (bare_is p t i l)
          (omega (
            arith,
            (rise_number p t i).few,
            bit_few 4 r.blocks,
            bit_few 8 r.weak,
            bit_few 16 r.strong,
            bit_few 32 r.drives,
            bit_few 128 (torch_charges_above p),
            (kind_number t table i l).1,
            facing_number t table i l,
          ))
