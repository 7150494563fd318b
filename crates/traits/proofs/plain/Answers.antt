-- `traits::plain` meets its contract. Assumes nothing.
use Rattle.blocks.specs.Profile.{properties_of}
use Rattle.traits.specs.Traits.{plain}
use Rattle.traits.proofs.plain.Goals as goal

pub returns : goal.returns
unfolding plain properties_of
returns c = rw (c.plain_rise.ensures, c.properties-own.ensures)
