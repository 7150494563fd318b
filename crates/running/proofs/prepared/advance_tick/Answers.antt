-- `running::prepared::advance_tick` meets its contract. Assumes nothing.
use mathlib.Core.Path.{◌∙◌}
use Rattle.running.proofs.Running.{table, ready_next, next_devices, ticked}
use Rattle.running.proofs.Valid.{valid_state}
use Rattle.running.proofs.prepared.advance_tick.Goals as goal

pub set_devices-requires : goal.set_devices-requires
set_devices-requires c =
    let (accepted, valid, prepared) = c.requires.accepted in
    (table accepted prepared, prepared.near_is, (valid_state _ _ valid).sized)

pub settle_state-rounds-requires : goal.settle_state-rounds-requires
settle_state-rounds-requires c =
    let (accepted, valid, prepared) = c.requires.accepted in
    (ready_next _ _ _ _ (c.set_devices.ensures ∙ next_devices c.requires.column_lengths.1) accepted valid, c.requires.column_lengths.0, prepared)

pub set_lights-requires : goal.set_lights-requires
set_lights-requires c =
    let (accepted, valid, prepared) = c.requires.accepted in
    (ready_next _ _ _ _ (c.set_devices.ensures ∙ next_devices c.requires.column_lengths.1) accepted valid).long

pub returns : goal.returns
returns c =
    let done = c.settle_state-rounds.ensures in
    let k = ticked c.requires.accepted.1 (c.set_devices.ensures ∙ next_devices c.requires.column_lengths.1) done.columns done.rounds c.set_lights.ensures in
    record { next = k.state; rounds = k.rounds; columns = k.columns }
