-- Answers of `clear::fill_holders`.
use Rattle.std.proofs.Common.{arith}
use Rattle.columns.proofs.Columns.{filled_none, filled_all}
use Rattle.clear.specs.Marks.{holders_of}
use Rattle.clear.proofs.fill_holders.Goals as goal

pub loop-i-init : goal.loop-i-init
loop-i-init c = filled_none c.requires.0

pub returns : goal.returns
unfolding holders_of
returns c = filled_all c.loop-i.invariant (omega (arith, c.requires.0))
