-- `month::count` meets its contract. The loop's invariant: the month is that of what was read so far. Assumes nothing.
use Rattle.totals.specs.Month.{IsOpen}
use Rattle.month.proofs.count.Given as goal

abbrev pub invariant-loop-tables_before : goal.invariant-loop-tables_before
invariant-loop-tables_before g l = IsOpen l.profile l.month
