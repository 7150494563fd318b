-- `arms::drops` meets its contract. Assumes nothing.
use mathlib.Core.Path.{sym, ◌∙◌}
use borrow.Author.Tests.{eq-eqb, ne_eqb}
use Rattle.arms.specs.Arms.{drops}
use Rattle.arms.proofs.drops.Goals as goal

pub returns-then-kind_at-eq-AIR : goal.returns-then-kind_at-eq-AIR
unfolding drops
returns-then-kind_at-eq-AIR c = rw (eq-eqb _ 0 (sym c.kind_at.ensures ∙ c.if-kind_at-eq-AIR.true), ← c.below.ensures, c.kind_at-then-kind_at-eq-AIR.ensures)

pub returns : goal.returns
unfolding drops
returns c = rw (← c.kind_at.ensures, ne_eqb _ 0 c.if-kind_at-eq-AIR.false)
