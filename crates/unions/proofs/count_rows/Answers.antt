-- Answers of `unions::count_rows`.
use Rattle.std.proofs.Common.{sym, ◌∙◌}
use Rattle.unions.proofs.Counting.{counting_more, counting_clash, counting_all}
use Rattle.unions.proofs.Steps.{taken}
use Rattle.unions.proofs.count_rows.Goals as goal

pub clash_at-requires : goal.clash_at-requires
clash_at-requires c =
    let (on, _, first, second, _) = c.loop-next.invariant in
    (taken _ _ _ c.in-Some.next _ on first second c.in-Some.ensures.steps).step.within

pub returns-then-clash_at : goal.returns-then-clash_at
returns-then-clash_at c =
    let (on, _, first, second, counting) = c.loop-next.invariant in
    counting_clash counting (taken _ _ _ c.in-Some.next _ on first second c.in-Some.ensures.steps).step (sym c.clash_at.ensures ∙ c.if-clash_at.true)

pub loop-next-preserved : goal.loop-next-preserved
loop-next-preserved c =
    let (on, _, first, second, counting) = c.loop-next.invariant in
    let t = taken _ _ _ c.in-Some.next _ on first second c.in-Some.ensures.steps in
    (c.in-Some.ensures.goes.keeps, tt, t.first, t.second, rw (t.i, t.j) (counting_more counting t.step (sym c.clash_at.ensures ∙ c.if-clash_at.false)))

pub returns : goal.returns
returns c =
    let (_, _, first, second, counting) = c.loop-next.invariant in
    counting_all counting (rw (first, second) at c.in-None.ensures.steps)
