-- Answers of `updates::state::set_lights`.
use Rattle.std.proofs.Common.{rules}
use Rattle.devices.specs.Step.{light_row}
use Rattle.updates.specs.Tick.{with_lights}
use Rattle.updates.proofs.state.set_lights.Goals as goal

pub returns : goal.returns
unfolding with_lights
returns c = let a = c.args in
    rw (← c.rows.ensures) (c.each_row.ensures (light_row a.table.now a.weak.now a.strong.now) (λ i r r' l p. search rules))
