-- `wire::transfer::fits_rise` meets its contract: the sink is where the test says, and then the rise is asked. Assumes nothing.
use mathlib.Core.Path.{sym, ap₂, ◌∙◌}
use Rattle.traits.specs.Traits.{rises_by}
use Rattle.wire.specs.Transfer.{fits_rise}
use Rattle.wire.proofs.transfer.fits_rise.Goals as goal

pub returns-then-same : goal.returns-then-same
unfolding fits_rise
returns-then-same c = rw (← c.pos_of.ensures, ← c.beside-side.ensures, ← c.above.ensures, ← c.pos_of-2.ensures, sym c.same.ensures ∙ c.if-same.true, c.rises_by.ensures)
    (ap₂ rises_by c.traits_at.ensures c.arm_of.ensures)

pub returns : goal.returns
unfolding fits_rise
returns c = rw (← c.pos_of.ensures, ← c.beside-side.ensures, ← c.above.ensures, ← c.pos_of-2.ensures, sym c.same.ensures ∙ c.if-same.false)
