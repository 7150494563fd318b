-- `power::none_mapped` meets its contract. Assumes nothing.
use mathlib.Core.Bool.{not, ◌||◌}
use borrow.Author.Rules.{rules}
use Rattle.columns.specs.Column.{row}
use Rattle.classes.specs.Class.{weak_in, strong_in}
use Rattle.power.specs.Power.{none_mapped}
use Rattle.power.proofs.none_mapped.Goals as goal

pub returns : goal.returns
unfolding none_mapped
returns c = c.all_indices.ensures (λ i. not (weak_in (row c.args.class.now i) || strong_in (row c.args.class.now i))) (λ i b l p. search rules)
