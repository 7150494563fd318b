-- Laws: of a table, the device column of a state reads the number of rows alone, and what falls on a state the kinds and the delays of the rows, too.
-- Assumes nothing.
use mathlib.Core.Path.{◌≡◌, refl, ap}
use mathlib.Core.Bool.{not}
use Prim.Native.Nat.{ℕ, ◌<◌}
use native.Mathlib.Omega.{arith}
use Rattle.columns.specs.Column.{Bytes, tabulate}
use Rattle.columns.specs.First.{first_from}
use Rattle.columns.proofs.First.{first_same}
use Rattle.world.specs.Rows.{rows, kind_of}
use Rattle.states.specs.Row.{delay_of, good_queue, good_light, good_torch, good_had_power, good_state}
use Rattle.updates.specs.State.{sixteen, device_in, devices_of, is_bad_state, check_state}

pub same_devices : (t u : Bytes) → rows u ≡ rows t → (st : Bytes) → devices_of u st ≡ devices_of t st
unfolding devices_of
same_devices t u n st = ap (λ k. tabulate k (device_in st)) n

module _ (t u : Bytes) (n : rows u ≡ rows t) (kinds : (i : ℕ) → i < rows t → kind_of u i ≡ kind_of t i)
    (delays : (i : ℕ) → i < rows t → delay_of u i ≡ delay_of t i) where
  same_good : (i : ℕ) → i < rows t → (r : Bytes) → good_state u i r ≡ good_state t i r
  unfolding good_state good_queue good_light good_torch good_had_power
  same_good i l r = rw (kinds i l, delays i l) refl

  pub same-state : (st : Bytes) → check_state u st ≡ check_state t st
  unfolding check_state
  same-state st =
      let bad : first_from (is_bad_state u st) (rows t) 0 ≡ first_from (is_bad_state t st) (rows t) 0 =
      first_same (is_bad_state u st) (is_bad_state t st) (rows t) 0 (λ i _ l. ap not (same_good i (omega arith) (sixteen st i))) in
      rw (n, bad) refl
