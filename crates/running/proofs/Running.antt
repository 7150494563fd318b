-- Laws of a call while it runs: what settling leaves, and one tick and many in the code's steps.
-- Assumes nothing.
use mathlib.Core.Path.{◌≡◌, ap, sym, ◌∙◌}
use Prim.Native.Nat.{ℕ, ◌+◌, ◌*◌, ◌≤◌}
use native.Mathlib.Omega.{arith}
use lib.ListN.{length, take, replicate}
use Rattle.columns.specs.Column.{Bytes, Column}
use Rattle.columns.proofs.Columns.{length_zeros}
use Rattle.network.specs.Laws.Loop.{Answered}
use Rattle.network.specs.Laws.SameEdges.{SameEdges, rounds_same, settled_same}
use Rattle.world.specs.Rows.{rows}
use Rattle.refusals.specs.Check.{IsAccepted}
use Rattle.refusals.specs.Accepted.{Table}
use Rattle.refusals.proofs.Accepted.{accepted_input}
use Rattle.emitted.specs.Emitted.{emitted}
use Rattle.edges.specs.Edges.{network_of}
use Rattle.electrical.specs.Answer.{rounds_of, settled}
use Rattle.classes.specs.Towards.{places}
use Rattle.circuit.specs.Circuit.{Shaped, circuit}
use Rattle.prepare.specs.Classes.{Prepared}
use Rattle.prepare.proofs.Rows.{length_classes}
use Rattle.prepare.proofs.Table.{prepared_shaped, circuit_of_table}
use Rattle.levels.specs.Numbers.{numbers}
use Rattle.updates.specs.State.{devices_of, IsValidState}
use Rattle.updates.specs.Tick.{with_devices, with_lights, settled_of, set_devices, set_lights, tick, ticks}
use Rattle.running.specs.Running.{ColumnLengths, Ready, HoldsSettled, Settled}
use Rattle.running.proofs.Many.{ticks_none, ticks_next}
use Rattle.running.proofs.States.{length_ticks, tick_devices}
use Rattle.running.proofs.Valid.{valid_state, devices_of_valid, set_devices_valid, ticks_valid}

-- ---- settling

-- the columns have the network of the table, so that what they settle to is what the table does
module _ {p t : Bytes} {near class : Column} (accepted : IsAccepted p t) (c : Prepared p t near class) where
  pub table : Table t
  table = (accepted_input p t accepted).1

  pub shaped : Shaped near class
  shaped = rw (c.near_is, c.class_is) (prepared_shaped p t table)

  same : SameEdges (circuit near class) (network_of p t)
  same = rw (c.near_is, c.class_is) (circuit_of_table p t table)

  pub class_rows : length class ≡ rows t
  class_rows = rw c.class_is (length_classes p t)

  pub settled_table : {d signal weak strong : Column} {r : ℕ} → Answered (circuit near class) (emitted t d) strong r signal weak
      → (r ≡ rounds_of p t d) × HoldsSettled p t d signal weak strong
  unfolding rounds_of settled
  settled_table {d} a =
      let s = settled_same same (emitted t d) in (
        sym a.rounds ∙ rounds_same same (emitted t d),
        record {
          signals = a.signal ∙ ap (λ x. x.signal) s;
          weaks = a.weak ∙ ap (λ x. x.weak) s;
          strongs = a.strong ∙ ap (λ x. x.strong) s;
        },
      )

-- ---- room for the prepared columns

-- n rows of an accepted table: the front of an array of zeros is room for each of its columns
module _ {t : Bytes} (accepted : Table t) {n : ℕ} (is : n ≡ rows t) where
  pub few_class : n ≤ 1024
  few_class = omega (arith, accepted.few)

  pub few_near : n * 7 ≤ 7168
  few_near = omega (arith, few_class)

  pub near_front : n * 7 ≡ length (take {A = ℕ} (n * 7) (replicate 7168 0))
  near_front = sym (length_zeros (n * 7) 7168 few_near)

  pub class_front : n ≡ length (take {A = ℕ} n (replicate 1024 0))
  class_front = sym (length_zeros n 1024 few_class)

  pub near_room : length (take {A = ℕ} (n * 7) (replicate 7168 0)) ≡ places * rows t
  near_room = sym near_front ∙ omega arith

  pub class_room : length (take {A = ℕ} n (replicate 1024 0)) ≡ rows t
  class_room = sym class_front ∙ is

-- ---- room stays

module _ {t : Bytes} {d signal weak strong d' signal' weak' strong' : Column} where
  pub lengths_kept : ColumnLengths t d signal weak strong → length d' ≡ length d → length signal' ≡ length signal → length weak' ≡ length weak
      → length strong' ≡ length strong → ColumnLengths t d' signal' weak' strong'
  lengths_kept r a b c e =
      record {
        device_rows = a ∙ r.device_rows;
        signal_rows = b ∙ r.signal_rows;
        weak_rows = c ∙ r.weak_rows;
        strong_rows = e ∙ r.strong_rows;
      }

-- ---- a state that is ready to be settled

pub ready : (p t st : Bytes) → IsAccepted p t → IsValidState t st → Ready p t st
ready p t st a v = record { accepted = a; long = (valid_state t st v).sized; valid = devices_of_valid t st v }

-- and so is the state once its devices are set
pub ready_next : (p t st st₁ : Bytes) → st₁ ≡ set_devices p t st → IsAccepted p t → IsValidState t st → Ready p t st₁
ready_next p t st st₁ e a v = rw e (ready p t (set_devices p t st) a (set_devices_valid p t st v))

-- the columns are settled by the devices of the state
pub settles : {p t st : Bytes} {d signal weak strong : Column} → d ≡ devices_of t st → HoldsSettled p t d signal weak strong → Settled p t st d signal weak strong
settles e s = record { devices = e; holds = rw e at s }

-- ---- a tick

module _ {p t st : Bytes} {d signal weak strong : Column} (h : Settled p t st d signal weak strong) where
  -- the devices, from the old columns
  pub next_devices : with_devices p t d (numbers signal weak strong) st ≡ set_devices p t st
  unfolding set_devices settled_of
  next_devices = rw (h.devices, h.holds.signals, h.holds.weaks, h.holds.strongs)

  -- the lamps and bulbs, from the new ones
  pub next_lights : with_lights t weak strong st ≡ set_lights p t st
  unfolding set_lights settled_of
  next_lights = rw (h.holds.weaks, h.holds.strongs)

-- what a tick leaves: the state, the rounds and the columns
pub record Ticked (p t st st' : Bytes) (d signal weak strong : Column) (r : ℕ) : Type 0 where
  pub state : st' ≡ tick p t st
  pub rounds : r ≡ rounds_of p t (devices_of t st')
  pub columns : Settled p t st' d signal weak strong

-- st becomes st₁ by its devices, settled, and then st₂ by its lamps and bulbs
module _ {p t st st₁ st₂ : Bytes} {d signal weak strong : Column} {r : ℕ} where
  pub ticked : IsValidState t st → st₁ ≡ set_devices p t st → Settled p t st₁ d signal weak strong → r ≡ rounds_of p t (devices_of t st₁)
      → st₂ ≡ with_lights t weak strong st₁ → Ticked p t st st₂ d signal weak strong r
  unfolding tick
  ticked v e s k f =
      let next : st₂ ≡ tick p t st = f ∙ next_lights s ∙ ap (set_lights p t) e in
      let same : devices_of t st₂ ≡ devices_of t st₁ =
      ap (devices_of t) next ∙ tick_devices p t st (valid_state t st v).sized ∙ ap (devices_of t) (sym e) in
      record {
        state = next;
        rounds = k ∙ ap (rounds_of p t) (sym same);
        columns = record { devices = s.devices ∙ sym same; holds = rw same s.holds };
      }

-- ---- many ticks: what n of them leave

pub record Ticking (n : ℕ) (p t st st' : Bytes) (d signal weak strong : Column) (r : ℕ) : Type 0 where
  pub state : st' ≡ ticks n p t st
  pub rounds : r ≡ rounds_of p t (devices_of t st')
  pub columns : Settled p t st' d signal weak strong

pub ticking_none : {p t st : Bytes} {d signal weak strong : Column} {r : ℕ} → r ≡ rounds_of p t (devices_of t st) → Settled p t st d signal weak strong
    → Ticking 0 p t st st d signal weak strong r
ticking_none {p} {t} {st} k s = record { state = sym (ticks_none p t st); rounds = k; columns = s }

module _ {n : ℕ} {p t st st' : Bytes} {d signal weak strong : Column} {r : ℕ} (g : Ticking n p t st st' d signal weak strong r) where
  pub ticking_valid : IsValidState t st → IsValidState t st'
  ticking_valid v = rw g.state (ticks_valid n p t st v)

  pub ticking_long : IsValidState t st → length st' ≡ length st
  ticking_long v = let s = (valid_state t st v).sized in ap length g.state ∙ length_ticks p t n st s ∙ sym s

  pub ticking_more : {st'' : Bytes} {d' signal' weak' strong' : Column} {r' : ℕ} → Ticked p t st' st'' d' signal' weak' strong' r'
      → Ticking (n + 1) p t st st'' d' signal' weak' strong' r'
  ticking_more k =
      record { state = k.state ∙ ap (tick p t) g.state ∙ sym (ticks_next p t n st); rounds = k.rounds; columns = k.columns }
