-- Answers of `clear::keep_rows`.
use borrow.Author.Tests.{eq-eqb, ne_eqb}
use Rattle.std.proofs.Common.{◌∙◌, arith}
use Rattle.subtables.proofs.Copies.{copied_none, copied_pass, copied_more}
use Rattle.clear.proofs.keep_rows.Goals as goal
use Rattle.clear.proofs.keep_rows.Goals.{then-pass-eq0, else-pass-eq0}

pub loop-i-init : goal.loop-i-init
loop-i-init c = copied_none

pub loop-i-preserved : goal.loop-i-preserved
loop-i-preserved c =
    let (table, long, room) = c.requires in
    let h = c.loop-i.invariant in
    elim c.if-pass-eq0.branch [
      | then-pass-eq0 w ↦ rw (w.kept-is ∙ w.put_row.ensures, w.count-is) (copied_more h (eq-eqb _ 0 w.if-pass-eq0.true) (omega (arith, table.whole, long)) (omega (arith, room)))
      | else-pass-eq0 w ↦ rw (w.kept-is, w.count-is) (copied_pass h (ne_eqb _ 0 w.if-pass-eq0.false))
    ]
