-- `running::prepared::new_state` meets its contract. Assumes nothing.
use mathlib.Core.Path.{refl}
use Rattle.running.proofs.Running.{lengths_kept}
use Rattle.updates.specs.State.{fresh_state}
use Rattle.running.proofs.prepared.new_state.Goals as goal

pub fill_fresh_devices-requires : goal.fill_fresh_devices-requires
fill_fresh_devices-requires c = c.requires.2.device_rows

pub settle-rounds-requires : goal.settle-rounds-requires
settle-rounds-requires c = let after = c in
    let s = after in
    (s.requires.0, lengths_kept s.requires.2 after.fill_fresh_devices.auto.devices refl refl refl, s.requires.3)

pub returns : goal.returns
unfolding fresh_state
returns c =
    let filled = c.fill_fresh_devices.ensures in
    let done = c.settle-rounds.ensures in
    let holds = rw filled at done.columns in
    record {
      next = rw (holds.weaks, holds.strongs) at c.fill_fresh.ensures;
      rounds = rw filled at done.rounds;
      columns = holds;
    }
