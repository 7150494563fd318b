-- `adjacency::fill_places` meets its contract. The loop's invariant: the columns of the places passed are written. Assumes nothing.
use Rattle.adjacency.proofs.Placing.{Placing}
use Rattle.adjacency.proofs.fill_places.Given as goal

abbrev pub invariant-loop-place : goal.invariant-loop-place
invariant-loop-place l = Placing l.table l.initial.near l.n l.place l.near
