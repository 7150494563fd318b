-- Answers of `supports::list_issues`.
use Rattle.std.proofs.Common.{sym, ◌∙◌, arith}
use Rattle.columns.proofs.Indices.{listed_none, listed_pass, listed_more}
use Rattle.supports.proofs.list_issues.Goals as goal
use Rattle.supports.proofs.list_issues.Goals.{then-lacks_support, else-lacks_support}

pub loop-i-init : goal.loop-i-init
loop-i-init c = listed_none

pub loop-i-preserved : goal.loop-i-preserved
loop-i-preserved c =
    elim c.if-lacks_support.branch [
      | then-lacks_support w ↦ rw (w.column-is, w.count-is) (listed_more c.loop-i.invariant (sym c.lacks_support.ensures ∙ w.if-lacks_support.true) (omega (arith, c.requires)))
      | else-lacks_support w ↦ rw (w.column-is, w.count-is) (listed_pass c.loop-i.invariant (sym c.lacks_support.ensures ∙ w.if-lacks_support.false))
    ]
