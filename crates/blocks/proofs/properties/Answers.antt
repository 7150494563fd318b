-- `blocks::properties` meets its contract: each value is a bit of the kind's byte. Assumes nothing.
use native.Mathlib.Nat.{div-one}
use Rattle.blocks.specs.Profile.{says, properties_of}
use Rattle.blocks.proofs.properties.Goals as goal

pub returns : goal.returns
unfolding properties_of says
returns c = rw (c.byte_at-sum.ensures, div-one)
