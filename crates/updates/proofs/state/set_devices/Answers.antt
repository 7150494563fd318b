-- Answers of `updates::state::set_devices`.
use Rattle.std.proofs.Common.{rules}
use Rattle.levels.specs.Numbers.{numbers}
use Rattle.devices.specs.Step.{device_row}
use Rattle.updates.specs.Tick.{with_devices}
use Rattle.updates.proofs.state.set_devices.Goals as goal

pub returns : goal.returns
unfolding with_devices
returns c = let a = c.args in
    rw (← c.rows.ensures)
    (c.each_row.ensures (device_row a.profile.now a.table.now a.devices.now (numbers a.signal.now a.weak.now a.strong.now)) (λ i r r' l p. search rules))
