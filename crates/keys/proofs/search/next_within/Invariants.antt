-- `keys::search::next_within` meets its contract. The loop's invariant: no row before row p has such a key. Assumes nothing.
use Rattle.keys.specs.Search.{Skipped}
use Rattle.keys.proofs.search.next_within.Given as goal

abbrev pub invariant-loop-p : goal.invariant-loop-p
invariant-loop-p l = Skipped l.keys l.low l.high l.from l.p
