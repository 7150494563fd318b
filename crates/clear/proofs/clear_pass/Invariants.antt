-- `clear::clear_pass` meets its contract. The loop's invariant: of the rows passed, those that go are marked. Assumes nothing.
use Rattle.clear.proofs.Marking.{Marking}
use Rattle.clear.proofs.clear_pass.Given as goal

abbrev pub invariant-loop-i : goal.invariant-loop-i
invariant-loop-i l = Marking l.holders l.initial.passes l.pass l.i l.passes l.any
