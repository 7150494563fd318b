-- `arms::joins` meets its contract. Assumes nothing.
use borrow.Author.Tests.{eq-eqb, ne_eqb}
use Rattle.arms.specs.Arms.{joins}
use Rattle.arms.proofs.joins.Goals as goal

pub returns-then-kind_at-eq-REDSTONE_WIRE : goal.returns-then-kind_at-eq-REDSTONE_WIRE
unfolding joins
returns-then-kind_at-eq-REDSTONE_WIRE c = rw (← c.kind_at.ensures, eq-eqb _ 3 c.if-kind_at-eq-REDSTONE_WIRE.true)

pub returns : goal.returns
unfolding joins
returns c = rw (← c.kind_at.ensures, ne_eqb _ 3 c.if-kind_at-eq-REDSTONE_WIRE.false) c.component_connects.ensures
