-- `updates::state::fill_devices` meets its contract. The loop's invariant: the bytes of the rows passed are there. Assumes nothing.
use lib.ListN.{length}
use Rattle.columns.proofs.Columns.{Filled}
use Rattle.states.specs.Row.{device_of}
use Rattle.updates.specs.State.{sixteen}
use Rattle.updates.proofs.state.fill_devices.Given as goal

abbrev pub invariant-loop-i : goal.invariant-loop-i
invariant-loop-i l = Filled (λ k. device_of (sixteen l.state k)) (length l.initial.devices) l.i l.devices
