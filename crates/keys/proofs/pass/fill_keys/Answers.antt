-- `keys::pass::fill_keys` meets its contract. Assumes nothing.
use mathlib.Core.Path.{ap, ◌∙◌}
use lib.ListN.{length}
use Rattle.keys.proofs.Passing.{length_own, own_low}
use Rattle.keys.proofs.pass.fill_keys.Goals as goal

pub pass_levels-requires : goal.pass_levels-requires
pass_levels-requires c =
    let own = c.fill_own.ensures in
    (ap length own ∙ length_own _ ∙ c.requires.0, λ i. rw own (own_low _ i))

pub returns : goal.returns
returns c = rw c.fill_own.ensures at c.pass_levels.ensures
