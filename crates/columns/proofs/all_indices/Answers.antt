-- Answers of `columns::all_indices`.
use Rattle.std.proofs.Common.{◌≡◌, sym, ◌∙◌, arith}
use Rattle.columns.proofs.First.{all_more, all_fails}
use Rattle.columns.proofs.all_indices.Goals as goal

pub loop-i-preserved : goal.loop-i-preserved
loop-i-preserved g c = λ f h.
    all_more f c.loop-i.i (c.loop-i.invariant f h) (sym (h _ _ c.loop-i-test.true c.test.ensures) ∙ c.if-not-test.false)

pub returns-then-not-test : goal.returns-then-not-test
returns-then-not-test g c = λ f h.
    let l = c.loop-i-test.true in
    sym (all_fails f c.args.n c.loop-i.i l (sym (h _ _ l c.test.ensures) ∙ c.if-not-test.true))

pub returns : goal.returns
returns g c = λ f h. let e : c.args.n ≡ c.loop-i.i = omega arith in sym (rw e (c.loop-i.invariant f h))
