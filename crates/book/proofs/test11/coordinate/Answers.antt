-- `book::test11::coordinate` meets its contract. Assumes nothing.
use Rattle.book.specs.Test11.{coordinate_answer}
use Rattle.book.proofs.test11.coordinate.Goals as goal

pub returns : goal.returns
unfolding coordinate_answer
returns c = cc
