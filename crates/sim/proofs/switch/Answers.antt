-- `sim::switch` meets its contract, by what the checks answer; a coordinate that is handed on is read back from its bits. Assumes nothing.
use mathlib.Core.Path.{◌≡◌, sym, ◌∙◌}
use Prim.Native.Nat.{ℕ}
use lib.ListN.{length}
use Rattle.columns.specs.Column.{Bytes, Column}
use Rattle.places.specs.declared.Pos.{Pos}
use Rattle.places.proofs.Signs.{back32}
use Rattle.refusals.specs.Check.{Checked, accepted}
use Rattle.switching.specs.Switch.{switched}
use Rattle.updates.specs.Calls.{check_step}
use Rattle.sim.proofs.Passing.{Turned, passed_step, few, front, device_lengths, switch_ready, switch_outputs, switch_rounds, switch_holds}
use Rattle.sim.proofs.Answers.{switch_done, switch_refused}
use Rattle.sim.proofs.switch.Goals as goal

pub returns-in-Err : goal.returns-in-Err
returns-in-Err c = switch_refused c.check_step-checked.ensures c.in-Err.is c.answer.ensures

-- where nothing is refused, and the table is switched
turned : (p t u st : Bytes) (signal weak strong : Column) {q there : Pos} {power : ℕ} {checked : Checked} → u ≡ switched t there power → there ≡ q
    → checked ≡ check_step p t st (length signal) (length weak) (length strong) → checked ≡ accepted → Turned p t u st q power signal weak strong
turned p t u st signal weak strong is same check none = record { is = rw same at is; passed = passed_step _ _ _ _ _ _ (sym check ∙ none) }

pub slice_bounds-devices-end : goal.slice_bounds-devices-end
slice_bounds-devices-end c =
    let a = c.args in
    let h = turned a.profile.now a.table.now _ a.state.now a.signal.now a.weak.now a.strong.now c.set_powered.ensures c.new.ensures c.check_step-checked.ensures c.in_default.is in
    few _ _ (switch_ready h).accepted c.rows-n.ensures

pub slice_bounds-settle_state-end : goal.slice_bounds-settle_state-end
slice_bounds-settle_state-end c =
    let a = c.args in
    let h = turned a.profile.now a.table.now _ a.state.now a.signal.now a.weak.now a.strong.now c.set_powered.ensures c.new.ensures c.check_step-checked.ensures c.in_default.is in
    front _ _ (switch_ready h).accepted c.rows-n.ensures

pub settle_state-requires : goal.settle_state-requires
settle_state-requires c =
    let a = c.args in
    let h = turned a.profile.now a.table.now _ a.state.now a.signal.now a.weak.now a.strong.now c.set_powered.ensures c.new.ensures c.check_step-checked.ensures c.in_default.is in
    (switch_ready h, device_lengths _ _ (switch_ready h).accepted c.rows-n.ensures (switch_outputs h))

pub returns : goal.returns
returns c =
    let a = c.args in
    let at = rw (back32 _ c.ranges.x, back32 _ c.ranges.y, back32 _ c.ranges.z) at c.new.ensures in
    let h = turned a.profile.now a.table.now _ a.state.now a.signal.now a.weak.now a.strong.now c.set_powered.ensures at c.check_step-checked.ensures c.in_default.is in
    let done = c.settle_state.ensures in
    switch_done (sym c.check_step-checked.ensures ∙ c.in_default.is) h.is (switch_rounds h done.rounds) (switch_holds h done.columns.holds)
