-- `round::next_weaks` meets its contract. Assumes nothing.
use borrow.Author.Rules.{rules}
use Rattle.round.proofs.Next.{weaks_next}
use Rattle.round.proofs.next_weaks.Goals as goal

pub returns : goal.returns
returns c = search (weaks_next, rules)
