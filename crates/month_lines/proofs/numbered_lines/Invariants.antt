-- `month_lines::numbered_lines` meets its contract. The loop's invariant: the lines of the figures before the k-th are put. Assumes nothing.
use Prim.Native.Nat.{◌+◌, ◌*◌, ◌≤◌}
use Rattle.columns.specs.Column.{row, concat_rows}
use Rattle.text.specs.Put.{Puts}
use Rattle.month_lines.specs.Lines.{numbered_line}
use Rattle.month_lines.proofs.numbered_lines.Given as goal

abbrev pub invariant-loop-k : goal.invariant-loop-k
invariant-loop-k l = (l.end ≤ l.at + l.k * 49) × Puts (concat_rows l.k (λ j. numbered_line l.name (l.first + j) (row l.counts j))) l.at l.initial.out l.out l.end
