-- `adjacency::search::walk` meets its contract. The loop's invariant: the rows passed are walked from, and the walk goes on at row p. Assumes nothing.
use Rattle.adjacency.proofs.Searching.{Walking}
use Rattle.adjacency.proofs.search.walk.Given as goal

abbrev pub invariant-loop-i : goal.invariant-loop-i
invariant-loop-i l = Walking l.column l.step l.i l.p l.out
