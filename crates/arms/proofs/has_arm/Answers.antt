-- `arms::has_arm` meets its contract. Assumes nothing.
use Rattle.arms.specs.Arms.{has_arm}
use Rattle.arms.proofs.has_arm.Goals as goal

pub returns : goal.returns
unfolding has_arm
returns c = cc
