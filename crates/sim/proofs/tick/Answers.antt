-- `sim::tick` meets its contract, by what the checks answer. Assumes nothing.
use mathlib.Core.Path.{sym, ◌∙◌}
use Rattle.sim.proofs.Passing.{passed_tick, few, front, device_lengths}
use Rattle.sim.proofs.Answers.{ticks_done, ticks_refused}
use Rattle.sim.proofs.tick.Goals as goal

pub returns-in-Err : goal.returns-in-Err
returns-in-Err c = ticks_refused c.check_tick-checked.ensures c.in-Err.is c.answer.ensures

pub slice_bounds-devices-end : goal.slice_bounds-devices-end
slice_bounds-devices-end c =
    let passed = passed_tick _ _ _ _ _ _ _ _ (sym c.check_tick-checked.ensures ∙ c.in_default.is) in
    few _ _ passed.accepted c.rows-n.ensures

pub slice_bounds-settle_ticks-end : goal.slice_bounds-settle_ticks-end
slice_bounds-settle_ticks-end c =
    let passed = passed_tick _ _ _ _ _ _ _ _ (sym c.check_tick-checked.ensures ∙ c.in_default.is) in
    front _ _ passed.accepted c.rows-n.ensures

pub settle_ticks-requires : goal.settle_ticks-requires
settle_ticks-requires c =
    let passed = passed_tick _ _ _ _ _ _ _ _ (sym c.check_tick-checked.ensures ∙ c.in_default.is) in
    (passed.accepted, passed.state, device_lengths _ _ passed.accepted c.rows-n.ensures passed.outputs)

pub returns : goal.returns
returns c =
    let done = c.settle_ticks.ensures in
    ticks_done (sym c.check_tick-checked.ensures ∙ c.in_default.is) done.next done.rounds done.columns
