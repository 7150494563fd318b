-- Answers of `feeders::list_feeders`.
use mathlib.Core.Path.{sym, ◌∙◌}
use native.Mathlib.Omega.{arith}
use Rattle.feeders.proofs.Fed.{fed_none, fed_room, fed_pass, fed_more, fed_all}
use Rattle.feeders.proofs.list_feeders.Goals as goal
use Rattle.feeders.proofs.list_feeders.Goals.{then-feeder, else-feeder}

pub loop-k-init : goal.loop-k-init
loop-k-init c = fed_none c.requires.entries_len

pub offset_bounds-entries-count : goal.offset_bounds-entries-count
offset_bounds-entries-count c = omega (arith, fed_room c.loop-k.invariant (omega arith))

pub bounds-entries-count : goal.bounds-entries-count
bounds-entries-count c = let h = c.loop-k.invariant in omega (arith, h.long, fed_room h (omega arith))

pub overflow_add-count : goal.overflow_add-count
overflow_add-count c = omega (arith, fed_room c.loop-k.invariant (omega arith))

pub loop-k-preserved : goal.loop-k-preserved
loop-k-preserved c = let h = c.loop-k.invariant in
    let slot = c.feeder_at-feeder.ensures in
    elim c.if-feeder.branch [
      | then-feeder w ↦ rw (w.entries-is, w.count-is) (fed_more h (omega arith) _ slot w.if-feeder.true)
      | else-feeder w ↦ rw (w.entries-is, w.count-is) (fed_pass h (omega arith) (sym slot ∙ w.if-feeder.false))
    ]

pub returns : goal.returns
returns c = fed_all c.loop-k.invariant (omega arith)
