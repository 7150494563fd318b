-- `places::Pos::offset` meets its contract: each coordinate is the library's sum, read back from its bits. Assumes nothing.
use borrow.Author.Rules.{rules, sfits_of}
use mir.Syntax.{w32}
use mir.Val.{SFits}
use Rattle.places.specs.Signed.{sat_add}
use Rattle.places.proofs.Signs.{back32, saturate_is}
use Rattle.places.proofs.Pos.offset.Goals as goal

pub returns : goal.returns
unfolding sat_add
returns c = let s = c in
    let fx : SFits w32 s.args.self.x = search rules in
    let fy : SFits w32 s.args.self.y = search rules in
    let fz : SFits w32 s.args.self.z = search rules in
    let one = c.saturating_add in
    let two = c.saturating_add-2 in
    let three = c.saturating_add-3 in
    let f1 : SFits w32 one.result = sfits_of one.type_inv in
    let f2 : SFits w32 two.result = sfits_of two.type_inv in
    let f3 : SFits w32 three.result = sfits_of three.type_inv in
    let gx = s.ranges.dx in
    let gy = s.ranges.dy in
    let gz = s.ranges.dz in
    rw (back32 _ f1, back32 _ f2, back32 _ f3) (simp (one.ensures, two.ensures, three.ensures, back32, saturate_is))
