-- `world::row::support_pos` meets its contract. Assumes nothing.
use mathlib.Core.Path.{sym, ◌∙◌}
use borrow.Author.Rules.{sfits_of}
use borrow.Author.Tests.{eq-eqb, ne_eqb}
use mir.Syntax.{w32}
use mir.Val.{SFits}
use Rattle.places.proofs.Signs.{back32}
use Rattle.world.specs.Rows.{support_of}
use Rattle.world.proofs.row.support_pos.Goals as goal

pub returns-then-byte_of-ne1 : goal.returns-then-byte_of-ne1
unfolding support_of
returns-then-byte_of-ne1 c = rw (← c.byte_of.ensures, ne_eqb _ 1 c.if-byte_of-ne1.true)

pub returns : goal.returns
unfolding support_of
returns c = let first = c.byte_of in
    let given = c.if-byte_of-ne1.false in
    let x = c.signed_byte-dx in
    let y = c.signed_byte-dy in
    let z = c.signed_byte-dz in
    let bx = c.byte_of-2 in
    let by = c.byte_of-3 in
    let bz = c.byte_of-4 in
    let fx : SFits w32 x.result = sfits_of x.type_inv in
    let fy : SFits w32 y.result = sfits_of y.type_inv in
    let fz : SFits w32 z.result = sfits_of z.type_inv in
    rw (eq-eqb _ 1 (sym first.ensures ∙ given), c.offset.ensures, c.pos_of.ensures, back32 _ fx, back32 _ fy, back32 _ fz, x.ensures, y.ensures, z.ensures, bx.ensures, by.ensures, bz.ensures)
