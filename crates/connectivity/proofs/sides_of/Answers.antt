-- `connectivity::sides_of` meets its contract. Assumes nothing.
use Rattle.connectivity.specs.Ports.{sides_of}
use Rattle.connectivity.proofs.sides_of.Goals as goal

pub returns : goal.returns
unfolding sides_of
returns c = cc
