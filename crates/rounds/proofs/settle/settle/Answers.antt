-- `rounds::settle::settle` meets its contract. Assumes nothing.
use borrow.Author.Rules.{rules}
use Rattle.rounds.proofs.Rounds.{solves}
use Rattle.rounds.proofs.settle.settle.Goals as goal

pub returns : goal.returns
returns c = search (solves, rules)
