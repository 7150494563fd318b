-- Laws of valid states: what the check says of one, that a tick keeps it valid, that the fresh state is valid, and that its devices are.
-- Assumes nothing.
use mathlib.Core.Path.{◌≡◌, ap}
use mathlib.Core.Bool.{true, not}
use Prim.Native.Nat.{ℕ, zero, suc, ◌*◌, ◌≤◌, ◌<◌}
use native.Mathlib.Nat.{max-le}
use native.Mathlib.Omega.{arith}
use lib.ListN.{length}
use lib.Dec.{eqb}
use borrow.Author.Tests.{eqb-true, eq-eqb, ltb-true, not-false}
use Rattle.columns.specs.Column.{Bytes}
use Rattle.columns.specs.Signal.{max_signal}
use Rattle.columns.proofs.Columns.{length_tabulate, row_tabulate}
use Rattle.columns.proofs.Parts.{length_concat_rows, part_concat_rows}
use Rattle.blocks.specs.Kind.{Comparator}
use Rattle.world.specs.Rows.{rows, kind_of}
use Rattle.refusals.specs.Accepted.{Table}
use Rattle.refusals.specs.Check.{refused, IsAccepted}
use Rattle.refusals.proofs.Accepted.{accepted_input}
use Rattle.refusals.proofs.Passed.{passed_values, values_pass}
use Rattle.refusals.proofs.Overdriven.{values_given_overdriven}
use Rattle.emitted.specs.Emitted.{IsValid}
use Rattle.emitted.proofs.Devices.{above_15}
use Rattle.electrical.specs.Answer.{settled}
use Rattle.electrical.proofs.Devices.{devices_valid}
use Rattle.electrical.proofs.Demand.{settled_at_most_15}
use Rattle.states.specs.Row.{device_of, good_state}
use Rattle.fresh.specs.Fresh.{fresh_device, fresh_row}
use Rattle.states.proofs.Parts.{parts, whole}
use Rattle.levels.specs.Numbers.{electrical_level}
use Rattle.fresh.proofs.FreshRows.{length_fresh, fresh-device, fresh_low, fresh_row_low, fresh_good}
use Rattle.steps.proofs.Rows.{light_device}
use Rattle.steps.proofs.Valid.{device_good, light_good}
use Rattle.steps.proofs.Levels.{device_low}
use Rattle.updates.specs.State.{sixteen, device_in, devices_of, is_bad_state, check_state, IsValidState, fresh_devices, fresh_state}
use Rattle.updates.specs.Tick.{numbers_of, settled_of, set_devices, tick, ticks}
use Rattle.running.proofs.States.{row_length, length_set_devices, length_tick, next, device-row, tick_row}

pub record Stated (t st : Bytes) : Type 0 where
  pub sized : length st ≡ rows t * 16
  pub good : (i : ℕ) → i < rows t → good_state t i (sixteen st i) ≡ true
  pub low : (i : ℕ) → i < rows t → device_of (sixteen st i) ≤ max_signal

pub valid_state : (t st : Bytes) → IsValidState t st → Stated t st
unfolding check_state
valid_state t st h =
    let v = passed_values (eqb (length st) (rows t * 16)) (is_bad_state t st) (device_in st) (rows t) h in
    record { sized = eqb-true _ _ v.of_size; good = λ i l. not-false _ (v.good i l); low = v.low }

pub state_valid : (t st : Bytes) → Stated t st → IsValidState t st
unfolding check_state
state_valid t st v =
    values_pass (eqb (length st) (rows t * 16)) (is_bad_state t st) (device_in st) (rows t)
    (record { of_size = eq-eqb _ _ v.sized; good = λ i l. ap not (v.good i l); low = v.low })

-- 10 is given of a state for a comparator's byte
pub overdriven_state : (t st : Bytes) (i : ℕ) → check_state t st ≡ refused 10 i → (kind_of t i ≡ Comparator) × (max_signal < device_in st i)
unfolding check_state
overdriven_state t st i h =
    let (_, good, first) = values_given_overdriven (eqb (length st) (rows t * 16)) (is_bad_state t st) (device_in st) (rows t) i h in
    let above : max_signal < device_in st i = ltb-true _ _ first.holds in
    let valid = parts t i (sixteen st i) (not-false _ (good i (omega (arith, first.inside)))) in
    (above_15 (kind_of t i) (device_in st i) valid.device above, above)

-- ---- the devices of a valid state, and of a fresh one

pub devices_of_valid : (t st : Bytes) → IsValidState t st → IsValid t (devices_of t st)
unfolding devices_of
devices_of_valid t st h =
    let v = valid_state t st h in
    devices_valid t (devices_of t st)
    (record {
      sized = length_tabulate (rows t) 0 _;
      good = λ i l. rw (row_tabulate (rows t) (device_in st) i l) (parts t i (sixteen st i) (v.good i l)).device;
      low = λ i l. rw (row_tabulate (rows t) (device_in st) i l) (v.low i l);
    })

pub fresh_devices_valid : (t : Bytes) → Table t → IsValid t (fresh_devices t)
unfolding fresh_devices
fresh_devices_valid t a =
    devices_valid t (fresh_devices t)
    (record {
      sized = length_tabulate (rows t) 0 _;
      good = λ i l. rw (row_tabulate (rows t) (fresh_device t) i l) (fresh-device t i);
      low = λ i l. rw (row_tabulate (rows t) (fresh_device t) i l) (fresh_low t i (a.low i l));
    })

-- ---- a tick keeps a valid state valid

module _ (p t st : Bytes) (h : IsValidState t st) where
  old : Stated t st
  old = valid_state t st h

  -- no number that it settles to is above 15
  level_low : (j : ℕ) → electrical_level (numbers_of (settled_of p t st)) j ≤ max_signal
  unfolding settled_of
  level_low j =
      let s = settled_at_most_15 p t (devices_of t st) (devices_of_valid t st h) in
      max-le (s.signals j) (max-le (s.weaks j) (s.strongs j))

  -- once its devices are set
  pub set_devices_valid : IsValidState t (set_devices p t st)
  set_devices_valid =
      state_valid t (set_devices p t st)
      (record {
        sized = length_set_devices p t st old.sized;
        good = λ i l.
            let r = sixteen st i in
            rw (device-row p t st old.sized i l)
            (whole t i _ (device_good p t (devices_of t st) (numbers_of (settled_of p t st)) i r (row_length t st old.sized i l) (parts t i r (old.good i l))));
        low = λ i l.
            let r = sixteen st i in
            rw (device-row p t st old.sized i l)
            (device_low t (numbers_of (settled_of p t st)) level_low i p (devices_of t st) r (row_length t st old.sized i l) (parts t i r (old.good i l)));
      })

module _ (p t st : Bytes) (h : IsValidState t st) where
  half : Stated t (set_devices p t st)
  half = valid_state t (set_devices p t st) (set_devices_valid p t st h)

  -- and once its lamps and bulbs are
  pub tick_valid : IsValidState t (tick p t st)
  tick_valid =
      let long = (valid_state t st h).sized in
      state_valid t (tick p t st)
      (record {
        sized = length_tick p t st long;
        good = λ i l.
            let r = sixteen (set_devices p t st) i in
            rw (tick_row p t st long i l)
            (whole t i _ (light_good t (next p t st).weak (next p t st).strong i r (row_length t (set_devices p t st) half.sized i l) (parts t i r (half.good i l))));
        low = λ i l.
            let r = sixteen (set_devices p t st) i in
            rw (tick_row p t st long i l, light_device t (next p t st).weak (next p t st).strong i r) (half.low i l);
      })

pub ticks_valid : (n : ℕ) (p t st : Bytes) → IsValidState t st → IsValidState t (ticks n p t st)
unfolding ticks
ticks_valid zero p t st h = h
ticks_valid (suc n) p t st h = ticks_valid n p t (tick p t st) (tick_valid p t st h)

-- ---- the fresh state of an accepted table is valid

pub fresh_valid : (p t : Bytes) → IsAccepted p t → IsValidState t (fresh_state p t)
unfolding fresh_state
fresh_valid p t a =
    let table = (accepted_input p t a).1 in
    let s = settled p t (fresh_devices t) in
    let wide : (i : ℕ) → i < rows t → length (fresh_row t s.weak s.strong i) ≡ 16 = λ i l. length_fresh t s.weak s.strong i in
    state_valid t (fresh_state p t)
    (record {
      sized = length_concat_rows 16 (fresh_row t s.weak s.strong) (rows t) wide;
      good = λ i l. rw (part_concat_rows 16 (fresh_row t s.weak s.strong) (rows t) wide i l) (fresh_good t i s.weak s.strong);
      low = λ i l. rw (part_concat_rows 16 (fresh_row t s.weak s.strong) (rows t) wide i l) (fresh_row_low t i (table.low i l) s.weak s.strong);
    })
