-- `round::next_signals` meets its contract. Assumes nothing.
use borrow.Author.Rules.{rules}
use Rattle.round.proofs.Next.{signals_next}
use Rattle.round.proofs.next_signals.Goals as goal

pub returns : goal.returns
returns c = search (signals_next, rules)
