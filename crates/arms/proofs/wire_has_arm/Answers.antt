-- `arms::wire_has_arm` meets its contract. Assumes nothing.
use Rattle.arms.specs.Arms.{wire_has_arm}
use Rattle.arms.proofs.wire_has_arm.Goals as goal

pub returns : goal.returns
unfolding wire_has_arm
returns c = cc
