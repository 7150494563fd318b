-- `feeders::write_list` meets its contract. The loop's invariant: the entries of the rows passed are written. Assumes nothing.
use Rattle.columns.proofs.Parts.{Written}
use Rattle.feeding.specs.Around.{entries_in}
use Rattle.feeders.proofs.write_list.Given as goal

abbrev pub invariant-loop-i : goal.invariant-loop-i
invariant-loop-i l = Written 12 (entries_in l.network.near.now l.network.class.now) l.initial.list l.i l.list
