-- What the checks of a call say where nothing is refused, and the room that is lent then.
-- Assumes nothing.
use mathlib.Core.Path.{◌≡◌, sym, ◌∙◌}
use mathlib.Core.Bool.{◌&&◌}
use Prim.Native.Nat.{ℕ, ◌*◌, ◌≤◌}
use native.Mathlib.Omega.{arith}
use lib.ListN.{length, take, replicate}
use lib.Dec.{eqb}
use borrow.Author.Tests.{eqb-true}
use Rattle.columns.specs.Column.{Bytes, Column}
use Rattle.columns.proofs.Truth.{and_true}
use Rattle.columns.proofs.Columns.{length_zeros}
use Rattle.places.specs.declared.Pos.{Pos}
use Rattle.world.specs.Rows.{rows}
use Rattle.refusals.specs.Check.{accepted, IsAccepted, check_input}
use Rattle.refusals.proofs.Passed.{passed_unless, passed_both}
use Rattle.refusals.proofs.Accepted.{accepted_input}
use Rattle.electrical.specs.Answer.{rounds_of, good_columns}
use Rattle.rounds.specs.Prepared.{Outputs}
use Rattle.rounds.proofs.Lending.{outputs}
use Rattle.wire.proofs.Alike.{same_rows}
use Rattle.updates.specs.State.{devices_of, IsValidState, check_state}
use Rattle.running.specs.Running.{ColumnLengths, Ready, HoldsSettled}
use Rattle.switching.specs.Switch.{switched}
use Rattle.updates.specs.Calls.{check_fresh, check_step, check_tick}
use Rattle.running.proofs.Valid.{valid_state, devices_of_valid}
use Rattle.switching.proofs.Switched.{switched_alike, switched_accepted}
use Rattle.sim.proofs.Switching.{switched_devices, switched_valid}

-- ---- what a call has that passes its checks

pub record Passed (p t : Bytes) (Its : Type 0) (signal weak strong : Column) : Type 0 where
  pub accepted : IsAccepted p t
  pub state : Its
  pub outputs : Outputs (rows t) signal weak strong

module _ (p t st : Bytes) (signal weak strong : Column) where
  pub passed_fresh : check_fresh p t (length st) (length signal) (length weak) (length strong) ≡ accepted
      → Passed p t (length st ≡ rows t * 16) signal weak strong
  unfolding check_fresh
  passed_fresh h =
      let (input, rest) = passed_both (check_input p t) _ h in
      let (room, _) = passed_unless 7 (eqb (length st) (rows t * 16) && good_columns t (length signal) (length weak) (length strong)) accepted rest in
      let (state, columns) = and_true (eqb (length st) (rows t * 16)) _ room in
      record { accepted = input; state = eqb-true _ _ state; outputs = outputs (rows t) signal weak strong columns }

  pub passed_step : check_step p t st (length signal) (length weak) (length strong) ≡ accepted → Passed p t (IsValidState t st) signal weak strong
  unfolding check_step
  passed_step h =
      let (input, rest) = passed_both (check_input p t) _ h in
      let (state, last) = passed_both (check_state t st) _ rest in
      let (columns, _) = passed_unless 7 (good_columns t (length signal) (length weak) (length strong)) accepted last in
      record { accepted = input; state = state; outputs = outputs (rows t) signal weak strong columns }

  pub passed_tick : (now asked : ℕ) → check_tick p t st now asked (length signal) (length weak) (length strong) ≡ accepted
      → Passed p t (IsValidState t st) signal weak strong
  unfolding check_tick
  passed_tick now asked h = passed_step (passed_both (check_step p t st (length signal) (length weak) (length strong)) _ h).0

-- ---- the front of an array of 1,024 zeros, of one entry a row of an accepted table

module _ (p t : Bytes) {n : ℕ} (a : IsAccepted p t) (e : n ≡ rows t) where
  pub few : n ≤ 1024
  few = omega (arith, (accepted_input p t a).1.few)

  -- as long as it was taken
  pub front : n ≡ length (take {A = ℕ} n (replicate 1024 0))
  front = sym (length_zeros n 1024 few)

  pub device_lengths : {signal weak strong : Column} → Outputs (rows t) signal weak strong → ColumnLengths t (take n (replicate 1024 0)) signal weak strong
  device_lengths o =
      record {
        device_rows = sym front ∙ e;
        signal_rows = o.signal_rows;
        weak_rows = o.weak_rows;
        strong_rows = o.strong_rows;
      }

-- ---- a switched table u: the state is ready to be settled with it

pub record Turned (p t u st : Bytes) (q : Pos) (power : ℕ) (signal weak strong : Column) : Type 0 where
  pub is : u ≡ switched t q power
  pub passed : Passed p t (IsValidState t st) signal weak strong

module _ {p t u st : Bytes} {q : Pos} {power : ℕ} {signal weak strong : Column} (h : Turned p t u st q power signal weak strong) where
  v : Passed p t (IsValidState t st) signal weak strong
  v = h.passed

  e : u ≡ switched t q power
  e = h.is

  switched_rows : rows u ≡ rows t
  switched_rows = rw e (same_rows (switched_alike t q power))

  switched_same : devices_of u st ≡ devices_of t st
  switched_same = rw e (switched_devices t q power st)

  pub switch_ready : Ready p u st
  switch_ready =
      record {
        accepted = rw e (switched_accepted t q power p v.accepted);
        long = rw switched_rows (valid_state t st v.state).sized;
        valid = rw (switched_same, e) (switched_valid t q power (devices_of t st) (devices_of_valid t st v.state));
      }

  pub switch_outputs : Outputs (rows u) signal weak strong
  switch_outputs =
      record {
        signal_rows = v.outputs.signal_rows ∙ sym switched_rows;
        weak_rows = v.outputs.weak_rows ∙ sym switched_rows;
        strong_rows = v.outputs.strong_rows ∙ sym switched_rows;
      }

  -- what is settled then
  pub switch_rounds : {r : ℕ} → r ≡ rounds_of p u (devices_of u st) → r ≡ rounds_of p (switched t q power) (devices_of t st)
  switch_rounds k = rw (← e, ← switched_same) k

  pub switch_holds : {signal' weak' strong' : Column} → HoldsSettled p u (devices_of u st) signal' weak' strong'
      → HoldsSettled p (switched t q power) (devices_of t st) signal' weak' strong'
  switch_holds s = rw (← e, ← switched_same) s
