-- Answers of `updates::state::each_row`.
use Rattle.std.proofs.Common.{◌∙◌, arith}
use Rattle.columns.proofs.Parts.{written_none, written_all}
use Rattle.updates.proofs.Turns.{turns_more}
use Rattle.updates.proofs.state.each_row.Goals as goal

pub loop-i-init : goal.loop-i-init
loop-i-init g c = λ f h. written_none

pub loop-i-preserved : goal.loop-i-preserved
loop-i-preserved g c = λ f h.
    let l = c.loop-i-test.true in
    turns_more f (c.loop-i.invariant f h) (c.loop-i.auto.state ∙ c.requires.whole) l (c.write_row.ensures (f c.loop-i.i) (λ r r' p. h _ r r' l p)) c.write_row.auto.lent

pub returns : goal.returns
returns g c = λ f h. written_all (c.loop-i.invariant f h) c.args.rows (omega arith) c.requires.whole
