-- `clear::fill_holders` meets its contract. The loop's invariant: the rows passed have what holds them up. Assumes nothing.
use Rattle.columns.proofs.Columns.{Filled}
use Rattle.world.specs.Rows.{rows}
use Rattle.clear.specs.Marks.{holder_of}
use Rattle.clear.proofs.fill_holders.Given as goal

abbrev pub invariant-loop-i : goal.invariant-loop-i
invariant-loop-i l = Filled (holder_of l.profile l.table) (rows l.table) l.i l.holders
