-- `arms::connects` meets its contract. Assumes nothing.
use Rattle.arms.specs.Arms.{connects}
use Rattle.arms.proofs.connects.Goals as goal

pub returns : goal.returns
unfolding connects
returns c = cc
