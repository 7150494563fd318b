-- `redraw::redraw_row` meets its contract: a row that is no dust is written as it was. Assumes nothing.
use Rattle.std.proofs.Common.{◌*◌, sym}
use borrow.Author.Tests.{ne_eqb}
use borrow.Rule.Slice.PartMut.{put_same}
use Rattle.redrawing.specs.Drawn.{redrawn_row}
use Rattle.redraw.proofs.redraw_row.Goals as goal

pub returns-else-kind_of-eq-REDSTONE_WIRE : goal.returns-else-kind_of-eq-REDSTONE_WIRE
unfolding redrawn_row
returns-else-kind_of-eq-REDSTONE_WIRE c =
    rw (← c.kind_of.ensures, ne_eqb _ 3 c.if-kind_of-eq-REDSTONE_WIRE.false) (sym (put_same (c.args.row * 32) 32 c.args.table.now))
