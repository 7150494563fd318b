-- `clear::keep_rows` meets its contract. The loop's invariant: of the rows passed, those without a mark are at the front. Assumes nothing.
use Rattle.subtables.proofs.Copies.{Copied}
use Rattle.clear.specs.Marks.{unmarked}
use Rattle.clear.proofs.keep_rows.Given as goal

abbrev pub invariant-loop-i : goal.invariant-loop-i
invariant-loop-i l = Copied l.table (unmarked l.passes) l.initial.kept l.i l.kept l.count
