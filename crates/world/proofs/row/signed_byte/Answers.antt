-- `world::row::signed_byte` meets its contract: the bits are read as a signed number. Assumes nothing.
use mir.Syntax.{w8, w32}
use mir.Val.{SFits}
use mir.ValLaws.{to_z-of_z}
use borrow.Author.Rules.{sfits_of}
use Rattle.places.proofs.Signs.{back32, signed8_is}
use Rattle.world.proofs.row.signed_byte.Goals as goal

pub returns : goal.returns
returns c = let f : SFits w8 c.cast_signed.result = sfits_of c.cast_signed.type_inv in
    let g : SFits w32 c.from.result = sfits_of c.from.type_inv in
    rw (back32 _ g, c.from.ensures, to_z-of_z w8 _ f, c.cast_signed.ensures) (signed8_is _)
