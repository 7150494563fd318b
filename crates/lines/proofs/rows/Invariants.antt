-- `lines::rows` meets its contract. The loop's invariant: the lines of the first `i` rows are put. Assumes nothing.
use Prim.Native.Nat.{◌+◌, ◌*◌, ◌≤◌}
use Rattle.columns.specs.Column.{concat_rows}
use Rattle.text.specs.Put.{Puts}
use Rattle.lines.specs.Lines.{row_of}
use Rattle.lines.proofs.rows.Given as goal

abbrev pub invariant-loop-i : goal.invariant-loop-i
invariant-loop-i l = (l.end ≤ l.at + l.i * 49) × Puts (concat_rows l.i (row_of l.table l.of.signal.now l.of.weak.now l.of.strong.now)) l.at l.initial.out l.out l.end
