-- `replay::replay` meets its contract. The loop's invariant: the tally of the file is that of what is left of it,
-- and there were no more records than bytes. Assumes nothing.
use lib.ListN.{length}
use Rattle.replay.proofs.Tallies.{Replayed}
use Rattle.replay.proofs.replay.Given as goal

abbrev pub invariant-loop-right : goal.invariant-loop-right
invariant-loop-right l = Replayed l.s l.records l.right l.rest

abbrev pub decreases-loop-right : goal.decreases-loop-right
decreases-loop-right l = length l.rest
