-- `world::row::coordinate_in` meets its contract, as `coordinate` does. Assumes nothing.
use native.Mathlib.Nat.{zero-add}
use mir.Syntax.{w32}
use mir.Val.{SFits}
use borrow.Author.Rules.{sfits_of}
use Rattle.places.proofs.Signs.{back32, signed32_is}
use Rattle.world.proofs.row.coordinate_in.Goals as goal

pub returns : goal.returns
returns c = let read = c.from_le_bytes in
    let f : SFits w32 read.result = sfits_of read.type_inv in
    rw (back32 _ f, read.ensures) (simp zero-add (signed32_is _))
