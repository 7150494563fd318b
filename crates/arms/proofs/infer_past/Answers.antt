-- `arms::infer_past` meets its contract: its tests are those of the definition, in order. Assumes nothing.
use mathlib.Core.Path.{sym, ap, ◌∙◌}
use Rattle.arms.specs.Arms.{infer_past}
use Rattle.arms.proofs.infer_past.Goals as goal

pub returns-then-joins : goal.returns-then-joins
unfolding infer_past
returns-then-joins c = rw (sym c.joins.ensures ∙ c.if-joins.true)

pub returns-then-rises : goal.returns-then-rises
unfolding infer_past
returns-then-rises c = rw (sym c.joins.ensures ∙ c.if-joins.false, sym c.rises.ensures ∙ c.if-rises.true)
    (ap (λ r. r.rise) c.traits_at.ensures)

pub returns-then-drops : goal.returns-then-drops
unfolding infer_past
returns-then-drops c = rw (sym c.joins.ensures ∙ c.if-joins.false, sym c.rises.ensures ∙ c.if-rises.false, sym c.drops.ensures ∙ c.if-drops.true)

pub returns : goal.returns
unfolding infer_past
returns c = rw (sym c.joins.ensures ∙ c.if-joins.false, sym c.rises.ensures ∙ c.if-rises.false, sym c.drops.ensures ∙ c.if-drops.false)
