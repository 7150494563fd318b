-- Answers of `columns::first_index`.
use Rattle.std.proofs.Common.{sym, ◌∙◌}
use Rattle.columns.proofs.First.{scan_hit, scan_miss, scan_over}
use Rattle.columns.proofs.first_index.Goals as goal

pub loop-i-preserved : goal.loop-i-preserved
loop-i-preserved g c = λ f h.
    let l = c.loop-i-test.true in
    c.loop-i.invariant f h ∙ scan_miss f c.args.n c.loop-i.i l (sym (h _ _ l c.test.ensures) ∙ c.if-test.false)

pub returns-then-test : goal.returns-then-test
returns-then-test g c = λ f h.
    let l = c.loop-i-test.true in
    sym (c.loop-i.invariant f h ∙ scan_hit f c.args.n c.loop-i.i l (sym (h _ _ l c.test.ensures) ∙ c.if-test.true))

pub returns : goal.returns
returns g c = λ f h. sym (c.loop-i.invariant f h ∙ scan_over f c.args.n c.loop-i.i c.loop-i-test.false)
