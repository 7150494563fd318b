-- Answers of `clear::clear_pass`.
use Rattle.std.proofs.Common.{◌≡◌, ◌<◌, sym, ◌∙◌, length, arith}
use Rattle.clear.proofs.Marking.{goes_then, marking_pass, marking_more, marking_all, marking_any}
use Rattle.clear.proofs.clear_pass.Goals as goal
use Rattle.clear.proofs.clear_pass.Goals.{then-goes, else-goes}

pub loop-i-preserved : goal.loop-i-preserved
loop-i-preserved c =
    let m = c.loop-i.invariant in
    let below : c.loop-i.i < length c.args.passes.now = omega arith in
    let goes = sym (goes_then m c.requires.1) ∙ sym c.goes.ensures in
    elim c.if-goes.branch [
      | then-goes w ↦ rw (w.passes-is, w.any-is) (marking_more m below (goes ∙ w.if-goes.true))
      | else-goes w ↦ rw (w.passes-is, w.any-is) (marking_pass m (goes ∙ w.if-goes.false))
    ]

pub returns : goal.returns
returns c =
    let all : c.loop-i.i ≡ length c.args.passes.now = omega arith in
    record { column = marking_all c.loop-i.invariant (omega arith); any = marking_any c.loop-i.invariant all }
