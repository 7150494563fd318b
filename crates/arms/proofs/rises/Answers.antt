-- `arms::rises` meets its contract. Assumes nothing.
use mathlib.Core.Path.{ap₂}
use mathlib.Core.Bool.{not, ◌&&◌}
use borrow.Author.Tests.{eq-eqb, ne_eqb}
use Rattle.blocks.specs.Kind.{is_dust}
use Rattle.arms.specs.Arms.{rises}
use Rattle.arms.proofs.rises.Goals as goal

pub returns-then-traits_at-eq-ARM_NONE : goal.returns-then-traits_at-eq-ARM_NONE
unfolding rises
returns-then-traits_at-eq-ARM_NONE c = rw (← c.traits_at.ensures, eq-eqb _ 1 c.if-traits_at-eq-ARM_NONE.true)

pub returns : goal.returns
unfolding rises
returns c = rw (← c.traits_at.ensures, ne_eqb _ 1 c.if-traits_at-eq-ARM_NONE.false, ← c.above.ensures, ← c.above-2.ensures)
    (ap₂ (λ k r. is_dust k && not r.blocks) c.kind_at.ensures c.traits_at-2.ensures)
