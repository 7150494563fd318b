-- `classes::arm_in` meets its contract. Assumes nothing.
use Rattle.classes.proofs.Arms.{arm-bits}
use Rattle.classes.proofs.arm_in.Goals as goal

pub returns : goal.returns
returns c = rw (arm-bits c.args.facing c.requires.le_facing c.requires.facing_bound)
