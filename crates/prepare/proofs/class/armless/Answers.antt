-- `prepare::class::armless` meets its contract. Assumes nothing.
use Rattle.prepare.specs.Classes.{armless}
use Rattle.prepare.proofs.class.armless.Goals as goal

pub returns : goal.returns
unfolding armless
returns c = rw (c.trait_bits.ensures.0, c.redstone_traits.ensures, c.bit.ensures.0, c.torch_charges_above.ensures, c.kind_of.ensures, c.facing_of.ensures)
