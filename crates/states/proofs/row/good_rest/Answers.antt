-- Answers of `states::row::good_rest`.
use Rattle.std.proofs.Common.{◌+◌, nat_eq, slice_index_or, rules}
use Rattle.states.proofs.row.good_rest.Goals as goal

pub returns : goal.returns
returns c = c.all_indices.ensures (λ k. nat_eq (slice_index_or c.args.sixteen.now (10 + k) 0) 0) (λ i b l p. search rules)
