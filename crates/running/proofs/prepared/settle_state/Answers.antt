-- `running::prepared::settle_state` meets its contract. Assumes nothing.
use mathlib.Core.Path.{refl}
use Rattle.running.proofs.Running.{lengths_kept, settles}
use Rattle.running.proofs.prepared.settle_state.Goals as goal

pub fill_devices-requires : goal.fill_devices-requires
fill_devices-requires c = let s = c in (s.requires.0.long, s.requires.1.device_rows)

pub settle-requires : goal.settle-requires
settle-requires c = let after = c in
    let s = after in
    (s.requires.0.accepted, lengths_kept s.requires.1 after.fill_devices.auto.devices refl refl refl, s.requires.2)

pub returns : goal.returns
returns c =
    let filled = c.fill_devices.ensures in
    let done = c.settle.ensures in
    record { rounds = rw filled at done.rounds; columns = settles filled done.columns }
