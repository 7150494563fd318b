-- `updates::state::fill_fresh_devices` meets its contract. The loop's invariant: the bytes of the rows passed are there. Assumes nothing.
use lib.ListN.{length}
use Rattle.columns.proofs.Columns.{Filled}
use Rattle.fresh.specs.Fresh.{fresh_device}
use Rattle.updates.proofs.state.fill_fresh_devices.Given as goal

abbrev pub invariant-loop-i : goal.invariant-loop-i
invariant-loop-i l = Filled (fresh_device l.table) (length l.initial.devices) l.i l.devices
