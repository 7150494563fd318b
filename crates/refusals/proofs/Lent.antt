-- The tests of rows that are lent by themselves are those of the rows in their table.
-- Assumes nothing.
use mathlib.Core.Path.{◌≡◌, refl}
use mathlib.Core.Bool.{not}
use Prim.Native.Nat.{ℕ, ◌+◌}
use native.Mathlib.Omega.{arith}
use Rattle.columns.specs.Column.{Bytes, part}
use Rattle.places.specs.Places.{before}
use Rattle.world.specs.Rows.{pos_of}
use Rattle.layout.proofs.Fields.{part_byte, part_place, part_good}
use Rattle.refusals.specs.Check.{is_bad, is_misplaced, is_overdriven}

module _ (t : Bytes) (i : ℕ) where
  pub lent_bad : (kinds : ℕ) → is_bad kinds (part 32 t i) 0 ≡ is_bad kinds t i
  lent_bad kinds = rw (part_good t i, part_byte t i 12 (omega arith)) refl

  pub lent_misplaced : not (before (pos_of (part 32 t i) 0) (pos_of (part 32 t (i + 1)) 0)) ≡ is_misplaced t i
  lent_misplaced = rw (part_place t i, part_place t (i + 1)) refl

  pub lent_overdriven : is_overdriven (part 32 t i) 0 ≡ is_overdriven t i
  lent_overdriven = rw (part_byte t i 12 (omega arith), part_byte t i 15 (omega arith), part_byte t i 16 (omega arith)) refl
