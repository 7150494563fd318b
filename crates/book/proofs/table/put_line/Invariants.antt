-- `book::table::put_line` meets its contract. The loop's invariant: the first i rows are put. Assumes nothing.
use mathlib.Core.Path.{◌≡◌}
use Rattle.book.specs.Tables.{put_line}
use Rattle.book.proofs.table.put_line.Given as goal

abbrev pub invariant-loop-i : goal.invariant-loop-i
invariant-loop-i l = l.t ≡ put_line l.initial.t l.i
