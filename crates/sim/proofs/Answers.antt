-- What the three calls answer and leave, by what their checks say.
-- Assumes nothing.
use mathlib.Core.Path.{◌≡◌, refl, sym, ◌∙◌}
use Prim.Native.Nat.{ℕ}
use lib.ListN.{length}
use Rattle.columns.specs.Column.{Bytes, Column}
use Rattle.network.specs.Network.{State}
use Rattle.places.specs.declared.Pos.{Pos}
use Rattle.refusals.specs.Check.{Checked, accepted, refused, answer_of}
use Rattle.electrical.specs.Answer.{rounds_of, settled, Columns}
use Rattle.updates.specs.State.{devices_of, fresh_devices, fresh_state}
use Rattle.updates.specs.Tick.{ticks}
use Rattle.running.specs.Running.{HoldsSettled, Settled}
use Rattle.switching.specs.Switch.{switched}
use Rattle.updates.specs.Calls.{check_fresh, check_step, check_tick, Fresh, Ticks, Switches}

-- ---- the columns that a call leaves on which c falls

kept : {c : Checked} {n i : ℕ} {s : State} {signal weak strong : Column} → c ≡ refused n i → Columns c s signal weak strong signal weak strong
kept e = rw e (record { signals = refl; weaks = refl; strongs = refl })

filled : {c : Checked} {p t : Bytes} {d signal weak strong signal' weak' strong' : Column} → c ≡ accepted → HoldsSettled p t d signal' weak' strong'
    → Columns c (settled p t d) signal weak strong signal' weak' strong'
filled e s = rw e (record { signals = s.signals; weaks = s.weaks; strongs = s.strongs })

module _ {p t st st' : Bytes} {signal weak strong signal' weak' strong' : Column} {r : ℕ} where
  pub fresh_done : check_fresh p t (length st) (length signal) (length weak) (length strong) ≡ accepted → st' ≡ fresh_state p t → r ≡ rounds_of p t (fresh_devices t) → HoldsSettled p t (fresh_devices t) signal' weak' strong'
      → Fresh p t st st' signal weak strong signal' weak' strong' r
  fresh_done e f k s = record { answer = rw e k; state = rw e f; columns = filled e s }

module _ {p t st : Bytes} {signal weak strong : Column} {r n i : ℕ} {x : Checked} where
  pub fresh_refused : x ≡ check_fresh p t (length st) (length signal) (length weak) (length strong) → x ≡ refused n i → r ≡ answer_of (refused n i) 0
      → Fresh p t st st signal weak strong signal weak strong r
  fresh_refused is told a = let e = sym is ∙ told in record { answer = rw e a; state = rw e; columns = kept e }

module _ {p t st st' : Bytes} {now asked : ℕ} {d signal weak strong signal' weak' strong' : Column} {r : ℕ} where
  pub ticks_done : check_tick p t st now asked (length signal) (length weak) (length strong) ≡ accepted → st' ≡ ticks asked p t st
      → r ≡ rounds_of p t (devices_of t st') → Settled p t st' d signal' weak' strong' → Ticks p t st st' now asked signal weak strong signal' weak' strong' r
  ticks_done e f k s = record { answer = rw e (rw f at k); state = rw e f; columns = filled e (rw f at s.holds) }

module _ {p t st : Bytes} {now asked : ℕ} {signal weak strong : Column} {r n i : ℕ} {x : Checked} where
  pub ticks_refused : x ≡ check_tick p t st now asked (length signal) (length weak) (length strong) → x ≡ refused n i → r ≡ answer_of (refused n i) 0
      → Ticks p t st st now asked signal weak strong signal weak strong r
  ticks_refused is told a = let e = sym is ∙ told in record { answer = rw e a; state = rw e; columns = kept e }

module _ {p t u st : Bytes} {q : Pos} {power : ℕ} {signal weak strong signal' weak' strong' : Column} {r : ℕ} where
  pub switch_done : check_step p t st (length signal) (length weak) (length strong) ≡ accepted → u ≡ switched t q power
      → r ≡ rounds_of p (switched t q power) (devices_of t st) → HoldsSettled p (switched t q power) (devices_of t st) signal' weak' strong'
      → Switches p t u st st q power signal weak strong signal' weak' strong' r
  switch_done e f k s = record { answer = rw e k; table = rw e f; state = refl; columns = filled e s }

module _ {p t st : Bytes} {q : Pos} {power : ℕ} {signal weak strong : Column} {r n i : ℕ} {x : Checked} where
  pub switch_refused : x ≡ check_step p t st (length signal) (length weak) (length strong) → x ≡ refused n i → r ≡ answer_of (refused n i) 0
      → Switches p t t st st q power signal weak strong signal weak strong r
  switch_refused is told a = let e = sym is ∙ told in record { answer = rw e a; table = rw e; state = refl; columns = kept e }
