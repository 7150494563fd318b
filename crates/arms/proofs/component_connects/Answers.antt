-- `arms::component_connects` meets its contract, by what the look-up finds. Assumes nothing.
use mathlib.Core.Path.{sym, ◌∙◌}
use Rattle.arms.specs.Arms.{component_connects}
use Rattle.arms.proofs.component_connects.Goals as goal

pub returns-in_default : goal.returns-in_default
unfolding component_connects
returns-in_default c = rw (sym c.find.ensures ∙ c.in_default.is)

pub returns : goal.returns
unfolding component_connects
returns c = rw (sym c.find.ensures ∙ c.in-At.is) c.connects.ensures
