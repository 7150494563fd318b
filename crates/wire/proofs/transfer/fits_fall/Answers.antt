-- `wire::transfer::fits_fall` meets its contract: the sink is where the test says, and then the block under the source is asked. Assumes nothing.
use mathlib.Core.Path.{sym, ap₂, ◌∙◌}
use mathlib.Core.Bool.{◌&&◌}
use Rattle.traits.specs.Traits.{rises_by}
use Rattle.wire.specs.Transfer.{fits_fall}
use Rattle.wire.proofs.transfer.fits_fall.Goals as goal

pub returns-then-same : goal.returns-then-same
unfolding fits_fall
returns-then-same c = rw (← c.pos_of-source.ensures, ← c.beside.ensures, ← c.below.ensures, ← c.pos_of.ensures, sym c.same.ensures ∙ c.if-same.true, ← c.below-then-same.ensures, ← c.opposite-back.ensures, c.rises_by.ensures)
    (ap₂ (λ r m. r.drives && rises_by r m) c.traits_at-under.ensures c.arm_of.ensures)

pub returns : goal.returns
unfolding fits_fall
returns c = rw (← c.pos_of-source.ensures, ← c.beside.ensures, ← c.below.ensures, ← c.pos_of.ensures, sym c.same.ensures ∙ c.if-same.false)
