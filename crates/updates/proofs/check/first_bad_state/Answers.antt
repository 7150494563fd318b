-- `updates::check::first_bad_state` meets its contract. Assumes nothing.
use Rattle.std.proofs.Common.{rules}
use Rattle.updates.specs.State.{is_bad_state}
use Rattle.updates.proofs.Turns.{lent_part}
use Rattle.updates.proofs.check.first_bad_state.Goals as goal

pub returns : goal.returns
returns c = c.first_index.ensures (is_bad_state c.args.table.now c.args.state.now) (λ i b l p. search (lent_part c.args.state.now i, rules))
