-- Answers of `running::prepared::settle_ticks`.
use mathlib.Core.Path.{◌≡◌, sym, ◌∙◌}
use native.Mathlib.Omega.{arith}
use Rattle.running.proofs.Running.{lengths_kept, ready, ticking_none, ticking_valid, ticking_long, ticking_more}
use Rattle.running.proofs.prepared.settle_ticks.Goals as goal

pub settle_state-rounds-requires : goal.settle_state-rounds-requires
settle_state-rounds-requires c = (ready _ _ _ c.requires.0 c.requires.1, c.requires.2, c.requires.3)

pub loop-done-init : goal.loop-done-init
loop-done-init c =
    let call = c.settle_state-rounds in
    (omega arith, lengths_kept c.requires.2 call.auto.devices call.auto.signal call.auto.weak call.auto.strong, ticking_none call.ensures.rounds call.ensures.columns)

pub advance_tick-rounds-requires : goal.advance_tick-rounds-requires
advance_tick-rounds-requires c =
    let inv = c.loop-done.invariant in
    record {
      accepted = (c.requires.0, ticking_valid inv.2 c.requires.1, c.requires.3);
      column_lengths = (inv.1, inv.2.columns);
    }

pub loop-done-preserved : goal.loop-done-preserved
loop-done-preserved c =
    let call = c.advance_tick-rounds in
    let inv = c.loop-done.invariant in
    (omega arith, lengths_kept inv.1 call.auto.devices call.auto.signal call.auto.weak call.auto.strong, ticking_more inv.2 (record { state = call.ensures.next; rounds = call.ensures.rounds; columns = call.ensures.columns }))

pub shape_of-state : goal.shape_of-state
shape_of-state c = ticking_long c.loop-done.invariant.2 c.requires.1

pub shape_of-devices : goal.shape_of-devices
shape_of-devices c = c.loop-done.invariant.1.device_rows ∙ sym c.requires.2.device_rows

pub shape_of-signal : goal.shape_of-signal
shape_of-signal c = c.loop-done.invariant.1.signal_rows ∙ sym c.requires.2.signal_rows

pub shape_of-weak : goal.shape_of-weak
shape_of-weak c = c.loop-done.invariant.1.weak_rows ∙ sym c.requires.2.weak_rows

pub shape_of-strong : goal.shape_of-strong
shape_of-strong c = c.loop-done.invariant.1.strong_rows ∙ sym c.requires.2.strong_rows

pub returns : goal.returns
returns c =
    let inv = c.loop-done.invariant in
    let all : c.loop-done._done ≡ c.args.count = omega arith in
    record { next = rw all at inv.2.state; rounds = inv.2.rounds; columns = inv.2.columns }
