-- `layout::low_bytes` meets its contract: the test at a byte is the definition's. Assumes nothing.
use borrow.Author.Rules.{rules}
use lib.ListN.{get_or}
use lib.Dec.{leb}
use Rattle.layout.specs.Good.{most_of}
use Rattle.layout.proofs.low_bytes.Goals as goal

pub returns : goal.returns
returns c = c.all_indices.ensures (λ k. leb (get_or c.args.profile.now k 0) (most_of k)) (λ k b l p. search rules)
