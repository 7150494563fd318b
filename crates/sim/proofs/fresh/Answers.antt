-- `sim::fresh` meets its contract, by what the checks answer. Assumes nothing.
use mathlib.Core.Path.{sym, ◌∙◌}
use Rattle.sim.proofs.Passing.{passed_fresh, few, front, device_lengths}
use Rattle.sim.proofs.Answers.{fresh_done, fresh_refused}
use Rattle.sim.proofs.fresh.Goals as goal

pub returns-in-Err : goal.returns-in-Err
returns-in-Err c = fresh_refused c.check_fresh-checked.ensures c.in-Err.is c.answer.ensures

pub slice_bounds-devices-end : goal.slice_bounds-devices-end
slice_bounds-devices-end c =
    let passed = passed_fresh _ _ c.args.state.now _ _ _ (sym c.check_fresh-checked.ensures ∙ c.in_default.is) in
    few _ _ passed.accepted c.rows-n.ensures

pub slice_bounds-new_state-end : goal.slice_bounds-new_state-end
slice_bounds-new_state-end c =
    let passed = passed_fresh _ _ c.args.state.now _ _ _ (sym c.check_fresh-checked.ensures ∙ c.in_default.is) in
    front _ _ passed.accepted c.rows-n.ensures

pub new_state-requires : goal.new_state-requires
new_state-requires c =
    let passed = passed_fresh _ _ c.args.state.now _ _ _ (sym c.check_fresh-checked.ensures ∙ c.in_default.is) in
    (passed.accepted, passed.state, device_lengths _ _ passed.accepted c.rows-n.ensures passed.outputs)

pub returns : goal.returns
returns c =
    let done = c.new_state.ensures in
    fresh_done (sym c.check_fresh-checked.ensures ∙ c.in_default.is) done.next done.rounds done.columns
