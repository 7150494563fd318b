-- Answers of `round::make_signals`.
use native.Mathlib.Omega.{arith}
use borrow.Author.Rules.{rules}
use Rattle.columns.proofs.Columns.{filled_all}
use Rattle.circuit.specs.Circuit.{signals_in}
use Rattle.round.proofs.InPlace.{changed_none, changed_more}
use Rattle.round.proofs.make_signals.Goals as goal

pub loop-i-init : goal.loop-i-init
loop-i-init c = changed_none (search rules)

pub loop-i-preserved : goal.loop-i-preserved
loop-i-preserved c = let l = c.loop-i in
    changed_more l.invariant (omega arith) (rw (l.invariant.rest l.i (omega arith)) at c.signal_of.ensures)

pub returns : goal.returns
unfolding signals_in
returns c = filled_all c.loop-i.invariant.filled (omega arith)
