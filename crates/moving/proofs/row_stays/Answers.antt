-- `moving::row_stays` meets its contract: the code's test is that of the moved position. Assumes nothing.
use borrow.Author.Rules.{rules}
use mir.Syntax.{w32}
use mir.Val.{SFits}
use Rattle.places.proofs.Signs.{back32}
use Rattle.moving.proofs.Offsets.{offset_place}
use Rattle.moving.proofs.row_stays.Goals as goal

pub returns : goal.returns
returns c = let by = c.args.by in
    let fx : SFits w32 by.x = search rules in
    let fy : SFits w32 by.y = search rules in
    let fz : SFits w32 by.z = search rules in
    rw (c.good_place.ensures, c.offset.ensures, c.pos_of.ensures, back32 _ fx, back32 _ fy, back32 _ fz) (offset_place by _)
