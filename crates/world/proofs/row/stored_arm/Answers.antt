-- `world::row::stored_arm` meets its contract. Assumes nothing.
use mathlib.Core.Path.{sym, ◌∙◌}
use Rattle.world.specs.Rows.{stored_arm}
use Rattle.world.proofs.row.stored_arm.Goals as goal

pub returns-then-has_stored_arms : goal.returns-then-has_stored_arms
unfolding stored_arm
returns-then-has_stored_arms c = rw (sym c.has_stored_arms.ensures ∙ c.if-has_stored_arms.true) c.arm_entry.ensures

pub returns : goal.returns
unfolding stored_arm
returns c = rw (sym c.has_stored_arms.ensures ∙ c.if-has_stored_arms.false)
