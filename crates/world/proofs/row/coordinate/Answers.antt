-- `world::row::coordinate` meets its contract: the number of the four bytes, read as a signed one. Assumes nothing.
use mathlib.Core.Path.{ap}
use mir.Syntax.{w32}
use mir.Val.{SFits}
use borrow.Author.Rules.{sfits_of}
use Rattle.places.specs.Signed.{signed32}
use Rattle.places.proofs.Signs.{back32, signed32_is}
use Rattle.world.proofs.Lent.{part_word}
use Rattle.world.proofs.row.coordinate.Goals as goal

pub returns-then-row-rows : goal.returns-then-row-rows
returns-then-row-rows c = let read = c.coordinate_in in
    let f : SFits w32 read.result = sfits_of read.type_inv in
    rw (back32 _ f, read.ensures, c.row_in.ensures) (ap signed32 (part_word c.args.table.now c.args.row c.args.b c.requires))

pub returns : goal.returns
returns c = let read = c.from_le_bytes in
    let f : SFits w32 read.result = sfits_of read.type_inv in
    rw (back32 _ f, read.ensures, c.byte_of.ensures, c.byte_of-2.ensures, c.byte_of-3.ensures, c.byte_of-4.ensures) (signed32_is _)
