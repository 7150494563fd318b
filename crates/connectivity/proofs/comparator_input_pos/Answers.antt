-- `connectivity::comparator_input_pos` meets its contract: the place by a row is `input_of`. Assumes nothing.
use borrow.Author.Rules.{rules}
use Rattle.connectivity.specs.Ports.{input_of, comparator_input_pos}
use Rattle.connectivity.proofs.comparator_input_pos.Goals as goal

pub returns : goal.returns
unfolding comparator_input_pos
returns c = rw (← c.of_kind.ensures) (c.at_found.ensures (input_of c.args.table.now) (λ i q p. search rules))
