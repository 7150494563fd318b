-- `moving::move_rows` meets its contract. The loop's invariant: the first i rows are moved and the rest is as it was. Assumes nothing.
use mathlib.Core.Path.{◌≡◌}
use lib.ListN.{length}
use Rattle.columns.specs.Column.{part}
use Rattle.columns.proofs.Parts.{Written}
use Rattle.moving.specs.Move.{moved_row}
use Rattle.moving.proofs.move_rows.Given as goal

abbrev pub invariant-loop-i : goal.invariant-loop-i
invariant-loop-i l = (length l.table ≡ length l.initial.table) × Written 32 (λ k. moved_row l.by (part 32 l.initial.table k)) l.initial.table l.i l.table
