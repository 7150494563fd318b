-- `layout::good_place` meets its contract: a coordinate that is handed on is read back from its bits. Assumes nothing.
use mir.Syntax.{w32}
use mir.Val.{SFits}
use Rattle.places.proofs.Signs.{back32}
use Rattle.layout.specs.Good.{good_place}
use borrow.Author.Rules.{rules}
use Rattle.layout.proofs.good_place.Goals as goal

pub returns : goal.returns
unfolding good_place
returns c = let s = c in
    let fx : SFits w32 s.args.q.x = search rules in
    let fy : SFits w32 s.args.q.y = search rules in
    let fz : SFits w32 s.args.q.z = search rules in
    rw (c.in_range.ensures, c.in_range-2.ensures, c.in_range-3.ensures) (simp back32)
