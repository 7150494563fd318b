-- `classes::arm_against` meets its contract. Assumes nothing.
use Rattle.classes.proofs.Arms.{turned}
use Rattle.classes.proofs.arm_against.Goals as goal

pub returns : goal.returns
returns c = rw (← turned c.args.facing c.requires.le_facing c.requires.facing_bound) c.arm_in.ensures
