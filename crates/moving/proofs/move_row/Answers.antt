-- `moving::move_row` meets its contract. Assumes nothing.
use mir.Syntax.{w32}
use mir.Val.{SFits}
use borrow.Author.Rules.{rules}
use Rattle.places.proofs.Signs.{back32}
use Rattle.world.specs.Rows.{pos_of}
use Rattle.moving.specs.Move.{moved_row}
use Rattle.moving.proofs.Offsets.{offset_moved}
use Rattle.moving.proofs.move_row.Goals as goal

pub returns : goal.returns
unfolding moved_row
returns c = let moved = c in
    let read = moved in
    let s = read in
    let fx : SFits w32 s.args.by.x = search rules in
    let fy : SFits w32 s.args.by.y = search rules in
    let fz : SFits w32 s.args.by.z = search rules in
    rw (c.write_pos.ensures, moved.offset-q.ensures, read.pos_of.ensures, back32 _ fx, back32 _ fy, back32 _ fz, offset_moved s.args.by (pos_of s.args.row.now 0) s.requires.1)
