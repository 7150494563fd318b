-- Document 02, Change 5: of the device bytes that are not bad, a comparator's alone can be overdriven.
-- Assumes nothing.
use mathlib.Core.Path.{◌≡◌}
use mathlib.Core.Logic.{by_cases}
use mathlib.Core.Bool.{Bool, true, false, cond}
use Prim.Native.Nat.{ℕ, ◌≤◌, ◌<◌}
use native.Mathlib.Decide.{ℕ_discrete}
use native.Mathlib.Omega.{arith}
use lib.ListN.{length}
use lib.Dec.{eqb, leb}
use borrow.Author.Tests.{eqb-true, ne_eqb, leb-true, ltb-true, not-false}
use Rattle.columns.specs.Column.{Bytes, Column, row}
use Rattle.columns.specs.Signal.{max_signal}
use Rattle.blocks.specs.Kind.{Comparator}
use Rattle.world.specs.Rows.{rows, kind_of}
use Rattle.refusals.specs.Check.{refused}
use Rattle.refusals.proofs.Overdriven.{values_given_overdriven}
use Rattle.emitted.specs.Emitted.{is_on_off, good_device, is_bad_device, check_devices}

-- a good byte of any other kind than a comparator is at most 1
pub other_low : (k b : ℕ) → ¬ (k ≡ Comparator) → good_device k b ≡ true → b ≤ 1
unfolding good_device
other_low k b n h = go (is_on_off k) (rw (ne_eqb k Comparator n) at h)
  where
    go : (on-off : Bool) → cond on-off (leb b 1) (eqb b 0) ≡ true → b ≤ 1
    go true e = leb-true b 1 e
    go false e = omega (arith, eqb-true b 0 e)

-- a good byte above 15 is a comparator's
pub above_15 : (k b : ℕ) → good_device k b ≡ true → max_signal < b → k ≡ Comparator
above_15 k b h l = by_cases (ℕ_discrete k Comparator) (λ e. e) (λ n. absurd (omega (arith, other_low k b n h)))

-- and so 10 is given of a column for a comparator's byte
pub overdriven_device : (t : Bytes) (d : Column) (i : ℕ) → check_devices t d ≡ refused 10 i → (kind_of t i ≡ Comparator) × (max_signal < row d i)
unfolding check_devices
overdriven_device t d i h =
    let (_, good, first) = values_given_overdriven (eqb (length d) (rows t)) (is_bad_device t d) (row d) (rows t) i h in
    let above : max_signal < row d i = ltb-true _ _ first.holds in
    (above_15 (kind_of t i) (row d i) (not-false _ (good i (omega (arith, first.inside)))) above, above)
