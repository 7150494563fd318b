-- Answers of `spread::raise_sinks`.
use native.Mathlib.Omega.{arith}
use Rattle.spread.proofs.RaisedSinks.{raised_none, raised_more, raised_all}
use Rattle.spread.proofs.raise_sinks.Goals as goal

pub loop-k-init : goal.loop-k-init
loop-k-init c = raised_none

pub loop-k-preserved : goal.loop-k-preserved
loop-k-preserved c = raised_more c.loop-k.invariant (omega arith) (rw (← c.sink_of.ensures) c.raise.ensures)

pub returns : goal.returns
returns c = raised_all c.loop-k.invariant (omega arith) c.requires.out_len
