-- `world::row::pos_in` meets its contract: each coordinate is handed on as its bits, and read back from them. Assumes nothing.
use mir.Syntax.{w32}
use mir.Val.{SFits}
use borrow.Author.Rules.{sfits_of}
use Rattle.places.proofs.Signs.{back32}
use Rattle.world.specs.Rows.{pos_of}
use Rattle.world.proofs.row.pos_in.Goals as goal

pub returns : goal.returns
unfolding pos_of
returns c = let x = c.coordinate_in in
    let y = c.coordinate_in-2 in
    let z = c.coordinate_in-3 in
    let f1 : SFits w32 x.result = sfits_of x.type_inv in
    let f2 : SFits w32 y.result = sfits_of y.type_inv in
    let f3 : SFits w32 z.result = sfits_of z.type_inv in
    rw (c.new.ensures, back32 _ f1, back32 _ f2, back32 _ f3, x.ensures, y.ensures, z.ensures)
