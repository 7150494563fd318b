-- `moving::good_offset` meets its contract: a coordinate that is handed on is read back from its bits. Assumes nothing.
use mir.Syntax.{w32}
use mir.Val.{SFits}
use borrow.Author.Rules.{rules}
use Rattle.places.proofs.Signs.{back32}
use Rattle.moving.specs.Move.{good_offset}
use Rattle.moving.proofs.good_offset.Goals as goal

pub returns : goal.returns
unfolding good_offset
returns c = let s = c in
    let fx : SFits w32 s.args.by.x = search rules in
    let fy : SFits w32 s.args.by.y = search rules in
    let fz : SFits w32 s.args.by.z = search rules in
    rw (c.in_offset_range.ensures, c.in_offset_range-2.ensures, c.in_offset_range-3.ensures) (simp back32)
