-- `answers::properties_agree` meets its contract. Assumes nothing.
use Rattle.std.proofs.Common.{rules}
use Rattle.answers.specs.Answers.{property_agrees, properties_agree}
use Rattle.answers.proofs.properties_agree.Goals as goal

pub returns : goal.returns
unfolding properties_agree
returns c = c.all_indices.ensures (property_agrees c.args.profile.now c.args.want.now) (λ i b l p. search rules)
