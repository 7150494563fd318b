-- `adjacency::search::if_is` meets its contract. Assumes nothing.
use borrow.Author.Rules.{rules}
use Rattle.adjacency.proofs.Searching.{reached_is, reached_other, reached_end}
use Rattle.adjacency.proofs.search.if_is.Goals as goal

pub returns-then-column-p : goal.returns-then-column-p
returns-then-column-p c = search (reached_is, rules)

pub returns-else-column-p : goal.returns-else-column-p
returns-else-column-p c = search (reached_other, rules)

pub returns-else-p-column : goal.returns-else-p-column
returns-else-p-column c = search (reached_end, rules)
