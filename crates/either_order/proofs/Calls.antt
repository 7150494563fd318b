-- Document 02, Change 8, of what the calls leave in the buffers: a redraw and a switch in either order end in the same table. Neither the profile nor the
-- table need be accepted; what is asked of states and columns is said at each law. The state is as it was. The rounds and columns of the switch are left
-- open, but for `same_figures`. The laws over the definitions are in crates/redrawing/proofs/EitherOrder.antt.
-- Assumes nothing.
use Rattle.std.proofs.Common.{Ok, Err}
use mathlib.Core.Path.{◌≡◌, refl, ap, sym, ◌∙◌}
use Prim.Native.Nat.{ℕ, ◌/◌, ◌%◌, ◌≤◌, ◌<◌}
use native.Mathlib.Omega.{arith}
use lib.ListN.{length}
use Rattle.columns.specs.Column.{Bytes, Column}
use Rattle.places.specs.declared.Pos.{Pos}
use Rattle.world.specs.Rows.{rows}
use Rattle.refusals.specs.Check.{Checked, accepted, refused, check_input, IsAccepted, answer_of, written}
use Rattle.refusals.specs.Answers.{decode}
use Rattle.refusals.proofs.Passed.{passed_both}
use Rattle.refusals.proofs.Tells.{told_accepted, told_refused}
use Rattle.wire.proofs.Alike.{same_rows}
use Rattle.redrawing.specs.Drawn.{update_wire_shapes}
use Rattle.redrawing.proofs.Redrawn.{redrawn_rows, redrawn_keeps}
use Rattle.redrawing.proofs.Accepted.{redrawn_accepted}
use Rattle.redrawing.proofs.EitherOrder.{redrawn_twice, either_order}
use Rattle.redraw.specs.Redraw.{Redraws}
use Rattle.switching.specs.Switch.{switched}
use Rattle.switching.proofs.Switched.{switched_alike, switched_accepted}
use Rattle.electrical.specs.Answer.{rounds_of, settled, Settles, SettledTo}
use Rattle.states.specs.Row.{delay_of}
use Rattle.updates.specs.State.{devices_of, check_state}
use Rattle.updates.specs.Tick.{ticks}
use Rattle.updates.specs.Calls.{check_step, Ticks}
use Rattle.updates.proofs.States.{same_devices, same-state}
use Rattle.updates.proofs.Answers.{ticks_tell, switch_tells}
use Rattle.either_order.specs.Orders.{SwitchesTo, RedrawThenSwitch, SwitchThenRedraw}

-- ---- what a redraw leaves

abbrev redraw_leaves : Bytes → Bytes → Bytes
redraw_leaves p t = written (check_input p t) t (update_wire_shapes p t)

module _ {p t u : Bytes} {a : ℕ} (redraw : Redraws p t u a) where
  left_drawn : IsAccepted p t → u ≡ update_wire_shapes p t
  left_drawn e = redraw.table ∙ ap (λ c. written c t (update_wire_shapes p t)) e

  left_kept : {n i : ℕ} → check_input p t ≡ refused n i → u ≡ t
  left_kept e = redraw.table ∙ ap (λ c. written c t (update_wire_shapes p t)) e

  -- the same refusal, or none, falls on it
  left_check : check_input p u ≡ check_input p t
  left_check = go (check_input p t) refl
    where
      go : (c : Checked) → check_input p t ≡ c → check_input p u ≡ check_input p t
      go (Ok _) e = ap (check_input p) (left_drawn e) ∙ redrawn_accepted p t e ∙ sym e
      go (Err fault) e = ap (check_input p) (left_kept e)

-- "redrawing an accepted table twice gives the bytes of redrawing once": of any table, since a refused call leaves it as it was; and the second call
-- answers what the first did
module _ {p t u v : Bytes} {a b : ℕ} (once : Redraws p t u a) (again : Redraws p u v b) where
  pub redraw_twice : v ≡ u
  redraw_twice = go (check_input p t) refl
    where
      go : (c : Checked) → check_input p t ≡ c → v ≡ u
      go (Ok _) e = left_drawn again (left_check once ∙ e) ∙ ap (update_wire_shapes p) (left_drawn once e) ∙ redrawn_twice p t ∙ sym (left_drawn once e)
      go (Err fault) e = left_kept again (left_check once ∙ e)

  pub answers_twice : b ≡ a
  answers_twice = again.answer ∙ ap (λ c. answer_of c 0) (left_check once) ∙ sym once.answer

-- ---- a switch of what a redraw leaves

module _ (p t : Bytes) where
  drawn_delay : (i : ℕ) → i < rows t → delay_of (update_wire_shapes p t) i ≡ delay_of t i
  unfolding delay_of
  drawn_delay i l = rw (redrawn_keeps p t i 17 l (omega arith, refl), redrawn_keeps p t i 18 l (omega arith, refl)) refl

  drawn_state : (st : Bytes) → check_state (update_wire_shapes p t) st ≡ check_state t st
  drawn_state = same-state t (update_wire_shapes p t) (redrawn_rows p t) (λ i l. redrawn_keeps p t i 12 l (omega arith, refl)) drawn_delay

  drawn_step : IsAccepted p t → (st : Bytes) (signal weak strong : ℕ)
      → check_step p (update_wire_shapes p t) st signal weak strong ≡ check_step p t st signal weak strong
  unfolding check_step
  drawn_step e st signal weak strong = rw (redrawn_accepted p t e, e, drawn_state st, redrawn_rows p t) refl

-- the same refusal, or none, falls on it
left_step : {p t u : Bytes} {a : ℕ} → Redraws p t u a → (st : Bytes) (signal weak strong : ℕ) → check_step p u st signal weak strong ≡ check_step p t st signal weak strong
left_step {p} {t} {u} redraw st signal weak strong = go (check_input p t) refl
  where
    go : (c : Checked) → check_input p t ≡ c → check_step p u st signal weak strong ≡ check_step p t st signal weak strong
    go (Ok _) e = ap (λ x. check_step p x st signal weak strong) (left_drawn redraw e) ∙ drawn_step p t e st signal weak strong
    go (Err fault) e = ap (λ x. check_step p x st signal weak strong) (left_kept redraw e)

-- ---- what a switch leaves

step_accepted : (p t st : Bytes) (signal weak strong : ℕ) → check_step p t st signal weak strong ≡ accepted → IsAccepted p t
unfolding check_step
step_accepted p t st signal weak strong e = (passed_both (check_input p t) _ e).0

module _ {p t st u : Bytes} {q : Pos} {power signal weak strong r : ℕ} (switch : SwitchesTo p t st u q power signal weak strong r) where
  lengths : check_step p t st (length switch.signal) (length switch.weak) (length switch.strong) ≡ check_step p t st signal weak strong
  lengths = rw (switch.signal_long, switch.weak_long, switch.strong_long) refl

  -- its answer tells what falls on it
  told : decode r ≡ check_step p t st signal weak strong
  told = (switch_tells switch.call).check ∙ lengths

  told_done : r < 65536 → check_step p t st signal weak strong ≡ accepted
  told_done l = sym lengths ∙ told_accepted (switch_tells switch.call) l

  told_kept : 65536 ≤ r → check_step p t st signal weak strong ≡ refused (r / 65536) (r % 65536)
  told_kept l = sym lengths ∙ told_refused (switch_tells switch.call) l

  switch_turned : check_step p t st signal weak strong ≡ accepted → u ≡ switched t q power
  switch_turned e = switch.call.table ∙ ap (λ c. written c t (switched t q power)) (lengths ∙ e)

  switch_kept : {n i : ℕ} → check_step p t st signal weak strong ≡ refused n i → u ≡ t
  switch_kept e = switch.call.table ∙ ap (λ c. written c t (switched t q power)) (lengths ∙ e)

  -- the same refusal, or none, falls on what it leaves
  turned_check : check_input p u ≡ check_input p t
  turned_check = go (check_step p t st signal weak strong) refl
    where
      go : (c : Checked) → check_step p t st signal weak strong ≡ c → check_input p u ≡ check_input p t
      go (Ok _) e =
          let ok : IsAccepted p t = step_accepted p t st signal weak strong e in
          ap (check_input p) (switch_turned e) ∙ switched_accepted t q power p ok ∙ sym ok
      go (Err fault) e = ap (check_input p) (switch_kept e)

-- ---- a redraw and then a switch

module _ {p t st u : Bytes} {q : Pos} {power signal weak strong a r : ℕ} (one : RedrawThenSwitch p t st u q power signal weak strong a r) where
  redrawn_turned : check_step p t st signal weak strong ≡ accepted → u ≡ switched (update_wire_shapes p t) q power
  redrawn_turned e =
      switch_turned one.switches (left_step one.redraws st signal weak strong ∙ e)
      ∙ ap (λ x. switched x q power) (left_drawn one.redraws (step_accepted p t st signal weak strong e))

  redrawn_kept : {n i : ℕ} → check_step p t st signal weak strong ≡ refused n i → u ≡ redraw_leaves p t
  redrawn_kept e = switch_kept one.switches (left_step one.redraws st signal weak strong ∙ e) ∙ one.redraws.table

  -- what they leave: the redrawn table, switched; where the switch alone is refused the redrawn table; where both are, the table
  pub table_left : u ≡ written (check_step p t st signal weak strong) (redraw_leaves p t) (switched (update_wire_shapes p t) q power)
  table_left = go (check_step p t st signal weak strong) refl
    where
      go : (c : Checked) → check_step p t st signal weak strong ≡ c → u ≡ written c (redraw_leaves p t) (switched (update_wire_shapes p t) q power)
      go (Ok _) e = redrawn_turned e
      go (Err fault) e = redrawn_kept e

-- ---- a switch and then a redraw

module _ {p t st u : Bytes} {q : Pos} {power signal weak strong a r : ℕ} (other : SwitchThenRedraw p t st u q power signal weak strong a r) where
  turned_redrawn : check_step p t st signal weak strong ≡ accepted → u ≡ update_wire_shapes p (switched t q power)
  turned_redrawn e =
      left_drawn other.redraws (turned_check other.switches ∙ step_accepted p t st signal weak strong e)
      ∙ ap (update_wire_shapes p) (switch_turned other.switches e)

  kept_redrawn : {n i : ℕ} → check_step p t st signal weak strong ≡ refused n i → u ≡ redraw_leaves p t
  kept_redrawn e = other.redraws.table ∙ ap (redraw_leaves p) (switch_kept other.switches e)

-- ---- in either order, with any two states and any columns

module _ {p t st st' u v : Bytes} {q : Pos} {power signal weak strong signal' weak' strong' a b r s : ℕ}
    (one : RedrawThenSwitch p t st u q power signal weak strong a r) (other : SwitchThenRedraw p t st' v q power signal' weak' strong' b s) where
  done : check_step p t st signal weak strong ≡ accepted → check_step p t st' signal' weak' strong' ≡ accepted → u ≡ v
  done e f = redrawn_turned one e ∙ sym (either_order p t q power) ∙ sym (turned_redrawn other f)

  kept : {n i m j : ℕ} → check_step p t st signal weak strong ≡ refused n i → check_step p t st' signal' weak' strong' ≡ refused m j → u ≡ v
  kept e f = redrawn_kept one e ∙ sym (kept_redrawn other f)

  same_step : check_step p one.between st signal weak strong ≡ check_step p t st signal weak strong
  same_step = left_step one.redraws st signal weak strong

  -- "Switching a position to a given power and then redrawing gives the same table as redrawing and then switching": where neither switch is refused, and
  -- where both are. "State is not part of this law": each has a state of its own, and columns of its own. Where one alone is refused, the tables may
  -- differ
  pub same_table_done : r < 65536 → s < 65536 → u ≡ v
  same_table_done l m = done (sym same_step ∙ told_done one.switches l) (told_done other.switches m)

  pub same_table_kept : 65536 ≤ r → 65536 ≤ s → u ≡ v
  same_table_kept l m = kept (sym same_step ∙ told_kept one.switches l) (told_kept other.switches m)

  -- whatever falls on the switches, the redraw answers the same
  pub same_answer : a ≡ b
  same_answer = one.redraws.answer ∙ ap (λ c. answer_of c 0) (sym (turned_check other.switches)) ∙ sym other.redraws.answer

-- ---- in either order, with one state, and columns of the same lengths

module _ {p t st u v : Bytes} {q : Pos} {power signal weak strong a b r s : ℕ}
    (one : RedrawThenSwitch p t st u q power signal weak strong a r) (other : SwitchThenRedraw p t st v q power signal weak strong b s) where
  -- "the same table", whatever falls on the calls
  pub same_table : u ≡ v
  same_table = go (check_step p t st signal weak strong) refl
    where
      go : (c : Checked) → check_step p t st signal weak strong ≡ c → u ≡ v
      go (Ok _) e = done one other e e
      go (Err fault) e = kept one other e e

  -- and the answers of the switch tell the same refusal, by number and row, or none; the rounds may differ
  pub same_refusal : decode r ≡ decode s
  same_refusal = told one.switches ∙ left_step one.redraws st signal weak strong ∙ sym (told other.switches)

-- ---- the figures after the last call

-- after a switch and then a redraw, tick with no ticks settles the table: it answers and writes what the switch does after the redraw
module _ {p t st st' u v state : Bytes} {q : Pos} {power signalLength weakLength strongLength signalLength' weakLength' strongLength' now a b r s n : ℕ}
    {signal weak strong signal' weak' strong' : Column}
    (one : RedrawThenSwitch p t st u q power signalLength weakLength strongLength a r)
    (other : SwitchThenRedraw p t st' v q power signalLength' weakLength' strongLength' b s)
    (tick : Ticks p v st state now 0 signal weak strong signal' weak' strong' n) where
  pub same_figures : r < 65536 → s < 65536 → n < 65536
      → (n ≡ r) × (signal' ≡ one.switches.signal') × (weak' ≡ one.switches.weak') × (strong' ≡ one.switches.strong')
  unfolding ticks
  same_figures l m k =
      let ((settling, turned), _) = (switch_tells one.switches.call).done l in
      let (ticking, _) = (ticks_tell tick).done k in
      let table : v ≡ switched one.between q power = sym (same_table_done one other l m) ∙ turned in
      let devices : devices_of v st ≡ devices_of one.between st = rw table (same_devices one.between (switched one.between q power) (same_rows (switched_alike one.between q power)) st) in
      let last : SettledTo p (switched one.between q power) (devices_of one.between st) signal' weak' strong' n = rw (devices, table) at ticking in
      (last.rounds ∙ sym settling.rounds, last.signals ∙ sym settling.signals, last.weaks ∙ sym settling.weaks, last.strongs ∙ sym settling.strongs)

-- ---- a redrawn table settles as it would when redrawn again

module _ (p t : Bytes) (d : Column) where
  pub settled_redrawn_again : settled p (update_wire_shapes p (update_wire_shapes p t)) d ≡ settled p (update_wire_shapes p t) d
  settled_redrawn_again = ap (λ u. settled p u d) (redrawn_twice p t)

  pub rounds_redrawn_again : rounds_of p (update_wire_shapes p (update_wire_shapes p t)) d ≡ rounds_of p (update_wire_shapes p t) d
  rounds_redrawn_again = ap (λ u. rounds_of p u d) (redrawn_twice p t)

-- of the calls: settle answers and writes the same after one redraw and after two, whatever falls on them
module _ {p t u v : Bytes} {d : Column} {limit a b r s : ℕ} {signal weak strong signal₁ weak₁ strong₁ signal₂ weak₂ strong₂ : Column}
    (once : Redraws p t u a) (again : Redraws p u v b) (after-once : Settles p u d limit signal weak strong signal₁ weak₁ strong₁ r)
    (after-twice : Settles p v d limit signal weak strong signal₂ weak₂ strong₂ s) where
  pub settles_again : (s ≡ r) × (signal₂ ≡ signal₁) × (weak₂ ≡ weak₁) × (strong₂ ≡ strong₁)
  settles_again =
      let twice : Settles p u d limit signal weak strong signal₂ weak₂ strong₂ s = rw (redraw_twice once again) at after-twice in (
        twice.answer ∙ sym after-once.answer,
        twice.columns.signals ∙ sym after-once.columns.signals,
        twice.columns.weaks ∙ sym after-once.columns.weaks,
        twice.columns.strongs ∙ sym after-once.columns.strongs,
      )
