-- Answers of `adjacency::search::advance`.
use borrow.Author.Rules.{rules}
use Rattle.adjacency.proofs.Searching.{passed_more}
use Rattle.adjacency.proofs.search.advance.Goals as goal

pub loop-p-init : goal.loop-p-init
loop-p-init c = c.requires

pub loop-p-preserved : goal.loop-p-preserved
loop-p-preserved c = passed_more c.loop-p.invariant (search rules) c.if-want-column.false
