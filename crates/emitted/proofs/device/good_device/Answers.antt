-- `emitted::device::good_device` meets its contract. Assumes nothing.
use Rattle.columns.proofs.Truth.{or_none}
use Rattle.emitted.specs.Emitted.{good_device}
use Rattle.emitted.proofs.device.good_device.Goals as goal

pub returns-then-kind : goal.returns-then-kind
unfolding good_device
returns-then-kind c = rw (or_none, c.if-kind.true)

pub returns : goal.returns
unfolding good_device
returns c = rw (or_none, c.if-kind.false)
