-- `moving::rows_stay` meets its contract: the test at a row is `row_stays`. Assumes nothing.
use borrow.Author.Rules.{rules}
use Rattle.world.specs.Rows.{pos_of}
use Rattle.layout.specs.Good.{good_place}
use Rattle.moving.specs.Move.{moved_by}
use Rattle.moving.proofs.rows_stay.Goals as goal

pub returns : goal.returns
returns c = rw (← c.rows.ensures) (c.all_indices.ensures (λ i. good_place (moved_by c.args.by (pos_of c.args.table.now i))) (λ i b l p. search rules))
