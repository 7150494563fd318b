-- Law: the twelve positions around a position in range stand in the table's order.
-- Assumes nothing.
use mathlib.Core.Path.{◌≡◌, refl}
use mathlib.Core.Bool.{Bool, true, cond}
use Prim.Native.Nat.{ℕ, zero, suc, ◌+◌, ◌-◌, ◌<◌}
use native.Mathlib.Omega.{arith}
use lib.Dec.{eqb}
use Rattle.columns.specs.First.{all_below}
use Rattle.columns.proofs.First.{all_at}
use Rattle.places.specs.declared.Pos.{Pos}
use Rattle.places.specs.Signed.{zero_z, one, minus_one}
use Rattle.places.specs.Places.{step, before}
use Rattle.places.proofs.Order.{before_x, before_y, before_z, before_trans}
use Rattle.places.proofs.Steps.{InRange, sideways, down, level, up}
use Rattle.places.proofs.Near.{sum_less}
use Rattle.feeding.specs.Around.{around_place, around_height}

-- the k-th position around q, as one step from it
abbrev pub around_at : Pos → ℕ → Pos
around_at q k = sideways q (around_place k + 1) (cond (eqb (around_height k) 0) minus_one (cond (eqb (around_height k) 1) zero_z one))

module _ (q : Pos) (r : InRange q) where
  -- each comes before the next
  abbrev next : ℕ → Bool
  next k = before (around_at q k) (around_at q (k + 1))

  each : all_below next 11 ≡ true
  unfolding step
  each =
      rw (
        before_y (around_at q 0) (around_at q 1) refl (sum_less q.y r.y down level (omega arith)),
        before_y (around_at q 1) (around_at q 2) refl (sum_less q.y r.y level up (omega arith)),
        before_x (around_at q 2) (around_at q 3) (sum_less q.x r.x down level (omega arith)),
        before_z (around_at q 3) (around_at q 4) refl refl (sum_less q.z r.z down up (omega arith)),
        before_y (around_at q 4) (around_at q 5) refl (sum_less q.y r.y down level (omega arith)),
        before_z (around_at q 5) (around_at q 6) refl refl (sum_less q.z r.z down up (omega arith)),
        before_y (around_at q 6) (around_at q 7) refl (sum_less q.y r.y level up (omega arith)),
        before_z (around_at q 7) (around_at q 8) refl refl (sum_less q.z r.z down up (omega arith)),
        before_x (around_at q 8) (around_at q 9) (sum_less q.x r.x level up (omega arith)),
        before_y (around_at q 9) (around_at q 10) refl (sum_less q.y r.y down level (omega arith)),
        before_y (around_at q 10) (around_at q 11) refl (sum_less q.y r.y level up (omega arith)),
      )

  from : (k d : ℕ) → k + suc d < 12 → before (around_at q k) (around_at q (k + suc d)) ≡ true
  from k zero h = all_at next 11 each k (omega arith)
  from k (suc d) h =
      let on : k + suc d + 1 ≡ k + suc (suc d) = omega arith in
      before_trans (around_at q k) (around_at q (k + suc d)) (around_at q (k + suc (suc d)))
      (from k d (omega arith))
      (rw on at (all_at next 11 each (k + suc d) (omega arith)))

  pub around_rise : (k m : ℕ) → k < m → m < 12 → before (around_at q k) (around_at q m) ≡ true
  around_rise k m l h = let e : k + suc (m - suc k) ≡ m = omega arith in rw e at (from k (m - suc k) (omega arith))
