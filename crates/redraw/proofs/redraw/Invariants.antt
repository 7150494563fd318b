-- `redraw::redraw` meets its contract. The loop's invariant: the first i rows are drawn anew and the rest is as it was. Assumes nothing.
use Rattle.columns.proofs.Parts.{Written}
use Rattle.redrawing.specs.Drawn.{redrawn_row}
use Rattle.redraw.proofs.redraw.Given as goal

abbrev pub invariant-loop-i : goal.invariant-loop-i
invariant-loop-i l = Written 32 (redrawn_row l.profile l.initial.table) l.initial.table l.i l.table
