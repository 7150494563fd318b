-- Document 02, Change 5, of what the calls write: no number of the three columns is above 15, and a state that is written is valid, so that it is
-- never overdriven. Of settle, that is in Demand.antt of `electrical`.
-- Assumes nothing.
use Prim.Native.Nat.{ℕ, ◌<◌}
use Rattle.columns.specs.Column.{Bytes, Column}
use Rattle.columns.specs.Signal.{AtMost15}
use Rattle.places.specs.declared.Pos.{Pos}
use Rattle.refusals.specs.Check.{IsAccepted}
use Rattle.refusals.proofs.Accepted.{accepted_input}
use Rattle.refusals.proofs.Tells.{told_accepted}
use Rattle.electrical.proofs.Demand.{settled_to_at_most_15}
use Rattle.updates.specs.State.{IsValidState, devices_of}
use Rattle.updates.specs.Calls.{Fresh, Ticks, Switches}
use Rattle.updates.proofs.Answers.{fresh_tells, ticks_tell, switch_tells}
use Rattle.running.proofs.Valid.{fresh_devices_valid, fresh_valid, devices_of_valid, ticks_valid}
use Rattle.switching.proofs.Switched.{switched_accepted}
use Rattle.sim.proofs.Passing.{Passed, passed_fresh, passed_step, passed_tick}
use Rattle.sim.proofs.Switching.{switched_valid, switched_state}

module _ {p t st st' : Bytes} {signal weak strong signal' weak' strong' : Column} {r : ℕ} (done : r < 65536) where
  -- ---- fresh

  module _ (f : Fresh p t st st' signal weak strong signal' weak' strong' r) where
    accepted : IsAccepted p t
    accepted = (passed_fresh p t st signal weak strong (told_accepted (fresh_tells f) done)).accepted

    pub fresh_at_most_15 : AtMost15 signal' weak' strong'
    fresh_at_most_15 = settled_to_at_most_15 (fresh_devices_valid t (accepted_input p t accepted).1) ((fresh_tells f).done done).0

    pub fresh_written_valid : IsValidState t st'
    fresh_written_valid = rw ((fresh_tells f).done done).1 (fresh_valid p t accepted)

  -- ---- tick

  module _ {now asked : ℕ} (f : Ticks p t st st' now asked signal weak strong signal' weak' strong' r) where
    pub ticks_written_valid : IsValidState t st'
    ticks_written_valid =
        rw ((ticks_tell f).done done).1
        (ticks_valid asked p t st (passed_tick p t st signal weak strong now asked (told_accepted (ticks_tell f) done)).state)

    pub ticks_at_most_15 : AtMost15 signal' weak' strong'
    ticks_at_most_15 =
        let (to, is) = (ticks_tell f).done done in
        settled_to_at_most_15 (devices_of_valid t _ (rw is at ticks_written_valid)) to

-- ---- switch

module _ {p t t' st st' : Bytes} {q : Pos} {power : ℕ} {signal weak strong signal' weak' strong' : Column} {r : ℕ} (done : r < 65536)
    (f : Switches p t t' st st' q power signal weak strong signal' weak' strong' r) where
  old : Passed p t (IsValidState t st) signal weak strong
  old = passed_step p t st signal weak strong (told_accepted (switch_tells f) done)

  -- it makes no row overdriven
  pub switch_written_accepted : IsAccepted p t'
  switch_written_accepted = rw ((switch_tells f).done done).0.1 (switched_accepted t q power p old.accepted)

  pub switch_written_valid : IsValidState t' st'
  switch_written_valid = let ((_, table), state) = (switch_tells f).done done in rw (table, state) (switched_state t q power st old.state)

  pub switch_at_most_15 : AtMost15 signal' weak' strong'
  switch_at_most_15 =
      let ((to, _), _) = (switch_tells f).done done in
      settled_to_at_most_15 (switched_valid t q power (devices_of t st) (devices_of_valid t st old.state)) to
