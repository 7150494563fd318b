-- `traits::traits_at` meets its contract, by what the look-up finds. Assumes nothing.
use mathlib.Core.Path.{sym, ◌∙◌}
use Rattle.traits.specs.Traits.{traits_at}
use Rattle.traits.proofs.traits_at.Goals as goal

pub returns-in_default : goal.returns-in_default
unfolding traits_at
returns-in_default c = rw (sym c.find.ensures ∙ c.in_default.is) c.nothing.ensures

pub returns : goal.returns
unfolding traits_at
returns c = rw (sym c.find.ensures ∙ c.in-At.is) c.redstone_traits.ensures
