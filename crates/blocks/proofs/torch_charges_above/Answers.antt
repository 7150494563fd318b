-- `blocks::torch_charges_above` meets its contract. Assumes nothing.
use Rattle.blocks.specs.Profile.{says}
use Rattle.blocks.proofs.torch_charges_above.Goals as goal

pub returns : goal.returns
unfolding says
returns c = rw c.byte_at.ensures
