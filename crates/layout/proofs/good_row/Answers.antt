-- `layout::good_row` meets its contract. Assumes nothing.
use Rattle.layout.specs.Good.{good_row}
use Rattle.layout.proofs.good_row.Goals as goal

pub returns : goal.returns
unfolding good_row
returns c = cc
