-- `layout::good_support` meets its contract. Assumes nothing.
use borrow.Author.Rules.{rules}
use lib.ListN.{get_or}
use Rattle.layout.proofs.Offset.{one_test}
use Rattle.layout.proofs.good_support.Goals as goal

pub returns : goal.returns
returns c = let t = c.args.row.now in
    rw (c.is_offset-3.ensures, c.is_offset-2.ensures, c.is_offset.ensures)
    (one_test (get_or t 19 0) (get_or t 20 0) (get_or t 21 0) (get_or t 22 0) (search rules) (search rules) (search rules))
