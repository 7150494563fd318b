-- Answers of `spread::raise_around`.
use native.Mathlib.Omega.{arith}
use Rattle.spread.proofs.RaisedSinks.{around_none, around_more, around_spread}
use Rattle.spread.proofs.raise_around.Goals as goal

pub loop-f-init : goal.loop-f-init
loop-f-init c = around_none

pub loop-f-preserved : goal.loop-f-preserved
loop-f-preserved c =
    around_more c.loop-f.invariant (omega arith)
    (rw c.level_sink-beside.ensures at c.raise.ensures)
    (rw c.upper_sink-above.ensures at c.raise-in-loop-f.ensures)
    (rw c.lower_sink-below.ensures at c.raise-in-loop-f-2.ensures)

pub returns : goal.returns
returns c = around_spread c.loop-f.invariant (omega arith) c.requires.out_len
