-- Answers of `redraw::redraw`.
use Rattle.std.proofs.Common.{arith}
use Rattle.columns.proofs.Parts.{written_none, written_more}
use Rattle.redrawing.proofs.Rows.{length_row}
use Rattle.redraw.proofs.Written.{half_row}
use Rattle.redraw.proofs.redraw.Goals as goal

pub loop-i-init : goal.loop-i-init
loop-i-init c = written_none

pub loop-i-preserved : goal.loop-i-preserved
loop-i-preserved c =
    let a = c.args in
    let l = c.loop-i in
    let i = l.i in
    let w = l.invariant in
    rw c.redraw_row.ensures (written_more w (half_row a.profile.now a.table.now i l.table w (omega arith)) (length_row a.profile.now l.table i (omega arith)))
