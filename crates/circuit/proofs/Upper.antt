-- Laws of the dust above the cell beside.
-- Assumes nothing.
use mathlib.Core.Path.{◌≡◌, refl}
use mathlib.Core.Bool.{Bool, true, false, and-false, not-and_self}
use Prim.Native.Nat.{ℕ, ◌+◌, ◌<◌}
use lib.Dec.{eqb}
use borrow.Author.Tests.{lt-ltb, eqb-true}
use Rattle.columns.specs.Column.{Column, row}
use Rattle.columns.proofs.Truth.{and_true, not_false}
use Rattle.blocks.specs.Kind.{is_dust}
use Rattle.classes.specs.Class.{rise_in, kind_in, arm_in, has_arm_in, rises_by_in}
use Rattle.classes.specs.Towards.{leads_in}
use Rattle.circuit.specs.Circuit.{no_row, beside_in, upper_sink}
use Rattle.circuit.specs.Sinks.{over_sink}

module _ (near class : Column) (j f : ℕ) where
  pub upper_over : leads_in (row class j) f ≡ true
      → upper_sink near class j f ≡ over_sink near class (beside_in near class j f) (arm_in (row class j) (f + 1))
  unfolding upper_sink
  upper_over h = rw (and_true (is_dust (kind_in (row class j))) _ h).0

  pub upper_none : f < 4 → leads_in (row class j) f ≡ false → upper_sink near class j f ≡ no_row
  unfolding upper_sink
  upper_none l h = go (is_dust (kind_in (row class j))) refl
    where
      go : (b : Bool) → is_dust (kind_in (row class j)) ≡ b → upper_sink near class j f ≡ no_row
      go true e =
          let unarmed : has_arm_in (row class j) (f + 1) ≡ false = rw (e, lt-ltb f 4 l) at h in
          let none : arm_in (row class j) (f + 1) ≡ 0 = eqb-true _ 0 (not_false _ unarmed) in
          let flat : rises_by_in (row class (beside_in near class j f)) 0 ≡ false = not-and_self (eqb (rise_in (row class (beside_in near class j f))) 0) in
          rw (e, none, flat, and-false)
      go false e = rw e
