-- `connectivity::output_of` meets its contract. Assumes nothing.
use Rattle.connectivity.specs.Ports.{output_of}
use Rattle.connectivity.proofs.output_of.Goals as goal

pub returns : goal.returns
unfolding output_of
returns c = cc
