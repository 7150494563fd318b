-- `wire::transfer::fits_horizontal` meets its contract: the sink is where the test says, and then both arms are asked. Assumes nothing.
use mathlib.Core.Path.{sym, ap₂, ◌∙◌}
use mathlib.Core.Bool.{◌&&◌}
use Rattle.arms.specs.Arms.{has_arm}
use Rattle.wire.specs.Transfer.{fits_horizontal}
use Rattle.wire.proofs.transfer.fits_horizontal.Goals as goal

pub returns-then-same : goal.returns-then-same
unfolding fits_horizontal has_arm
returns-then-same c = rw (← c.pos_of.ensures, ← c.beside-side.ensures, ← c.pos_of-2.ensures, sym c.same.ensures ∙ c.if-same.true, ← c.opposite-back.ensures) (ap₂ ◌&&◌ c.has_arm.ensures c.has_arm-then-same.ensures)

pub returns : goal.returns
unfolding fits_horizontal
returns c = rw (← c.pos_of.ensures, ← c.beside-side.ensures, ← c.pos_of-2.ensures, sym c.same.ensures ∙ c.if-same.false)
