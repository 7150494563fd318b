-- `adjacency::supports::fill_supports` meets its contract. The loop's invariant: the supports of the rows passed are found. Assumes nothing.
use Rattle.columns.proofs.Columns.{Filled}
use Rattle.world.specs.Rows.{rows}
use Rattle.adjacency.specs.Adjacency.{row_by}
use Rattle.adjacency.proofs.supports.fill_supports.Given as goal

abbrev pub invariant-loop-i : goal.invariant-loop-i
invariant-loop-i l = Filled (λ k. row_by l.table k 6) (rows l.table) l.i l.out
