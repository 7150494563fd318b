-- `round::first_signals` meets its contract. Assumes nothing.
use borrow.Author.Rules.{rules}
use Rattle.round.proofs.Next.{signals_first}
use Rattle.round.proofs.first_signals.Goals as goal

pub returns : goal.returns
returns c = search (signals_first, rules)
