-- `rounds::run::turn` meets its contract. Assumes nothing.
use borrow.Author.Rules.{rules}
use Rattle.rounds.proofs.Rounds.{turns}
use Rattle.rounds.proofs.run.turn.Goals as goal

pub returns : goal.returns
returns c = search (turns, rules)
