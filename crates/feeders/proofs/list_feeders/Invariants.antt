-- `feeders::list_feeders` meets its contract. The loop's invariant: at the front are the feeders at the positions passed. Assumes nothing.
use Rattle.feeding.specs.Around.{feeder_in}
use Rattle.feeders.proofs.Fed.{Fed}
use Rattle.feeders.proofs.list_feeders.Given as goal

abbrev pub invariant-loop-k : goal.invariant-loop-k
invariant-loop-k l = Fed (feeder_in l.network.near.now l.network.class.now l.row) l.initial.entries l.k l.count l.entries
