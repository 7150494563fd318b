-- `world::find::kind_at` meets its contract, by what the look-up finds. Assumes nothing.
use mathlib.Core.Path.{sym, ◌∙◌}
use Rattle.world.specs.Find.{kind_at}
use Rattle.world.proofs.find.kind_at.Goals as goal

pub returns-in_default : goal.returns-in_default
unfolding kind_at
returns-in_default c = rw (sym c.find.ensures ∙ c.in_default.is)

pub returns : goal.returns
unfolding kind_at
returns c = rw (sym c.find.ensures ∙ c.in-At.is) c.kind_of.ensures
