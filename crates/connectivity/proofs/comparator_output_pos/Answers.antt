-- `connectivity::comparator_output_pos` meets its contract: the place by a row is `output_of`. Assumes nothing.
use borrow.Author.Rules.{rules}
use Rattle.connectivity.specs.Ports.{output_of, comparator_output_pos}
use Rattle.connectivity.proofs.comparator_output_pos.Goals as goal

pub returns : goal.returns
unfolding comparator_output_pos
returns c = rw (← c.of_kind.ensures) (c.at_found.ensures (output_of c.args.table.now) (λ i q p. search rules))
