-- `adjacency::positions::fill_positions` meets its contract. The loop's invariant: the rows passed are packed. Assumes nothing.
use Rattle.columns.proofs.Columns.{Filled}
use Rattle.world.specs.Rows.{rows, pos_of}
use Rattle.adjacency.specs.Adjacency.{packed}
use Rattle.adjacency.proofs.positions.fill_positions.Given as goal

abbrev pub invariant-loop-i : goal.invariant-loop-i
invariant-loop-i l = Filled (λ k. packed (pos_of l.table k)) (rows l.table) l.i l.out
