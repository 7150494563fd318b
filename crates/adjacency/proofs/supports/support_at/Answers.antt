-- `adjacency::supports::support_at` meets its contract. Assumes nothing.
use mathlib.Core.Path.{sym, ◌∙◌}
use native.Mathlib.Omega.{arith}
use Rattle.adjacency.proofs.Found.{placed_long, placed_bounds, placed_rises}
use Rattle.adjacency.proofs.Beside.{support_by, no_support}
use Rattle.adjacency.proofs.supports.support_at.Goals as goal

pub bounds-positions-row : goal.bounds-positions-row
bounds-positions-row c = omega (arith, placed_long c.requires.0)

pub overflow_add-positions : goal.overflow_add-positions
overflow_add-positions c = let s = c in
    omega (arith, (placed_bounds s.requires.0 s.args.row s.requires.1).1)

pub overflow_sub-positions : goal.overflow_sub-positions
overflow_sub-positions c = let s = c in
    omega (arith, (placed_bounds s.requires.0 s.args.row s.requires.1).0)

pub row_at-requires : goal.row_at-requires
row_at-requires c = placed_rises c.requires.0

pub returns-then-table-row-eq1 : goal.returns-then-table-row-eq1
returns-then-table-row-eq1 c = let s = c in
    c.row_at.ensures
    ∙ rw c.support_step.ensures.0 (sym (support_by s.requires.0 s.args.row s.requires.1 c.if-table-row-eq1.true))

pub returns : goal.returns
returns c = let s = c in sym (no_support s.args.table.now s.args.row c.if-table-row-eq1.false)
