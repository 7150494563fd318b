-- `adjacency::search::advance` meets its contract. The loop's invariant: the rows before p are below the number. Assumes nothing.
use Rattle.adjacency.specs.Search.{Passed}
use Rattle.adjacency.proofs.search.advance.Given as goal

abbrev pub invariant-loop-p : goal.invariant-loop-p
invariant-loop-p l = Passed l.column l.want l.p
