-- `arms::arm_of` meets its contract. Assumes nothing.
use mathlib.Core.Path.{sym, ◌∙◌}
use borrow.Author.Tests.{eq-eqb, ne_eqb}
use Rattle.arms.specs.Arms.{arm_of}
use Rattle.arms.proofs.arm_of.Goals as goal

pub returns-then-kind_of-ne-REDSTONE_WIRE : goal.returns-then-kind_of-ne-REDSTONE_WIRE
unfolding arm_of
returns-then-kind_of-ne-REDSTONE_WIRE c = rw (← c.kind_of.ensures, ne_eqb _ 3 c.if-kind_of-ne-REDSTONE_WIRE.true)

pub returns-then-stored-ne0 : goal.returns-then-stored-ne0
unfolding arm_of
returns-then-stored-ne0 c = rw (eq-eqb _ 3 (sym c.kind_of.ensures ∙ c.if-kind_of-ne-REDSTONE_WIRE.false), ← c.stored_arm-stored.ensures, ne_eqb _ 0 c.if-stored-ne0.true)

pub returns : goal.returns
unfolding arm_of
returns c = rw (eq-eqb _ 3 (sym c.kind_of.ensures ∙ c.if-kind_of-ne-REDSTONE_WIRE.false), eq-eqb _ 0 (sym c.stored_arm-stored.ensures ∙ c.if-stored-ne0.false), ← c.pos_of.ensures) c.infer_wire_connection.ensures
