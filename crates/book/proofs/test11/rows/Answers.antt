-- `book::test11::rows` meets its contract. Assumes nothing.
use Rattle.book.specs.Test11.{rows_answer}
use Rattle.book.proofs.test11.rows.Goals as goal

pub returns : goal.returns
unfolding rows_answer
returns c = cc
