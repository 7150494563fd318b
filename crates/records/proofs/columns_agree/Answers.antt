-- `records::columns_agree` meets its contract. Assumes nothing.
use Rattle.records.specs.Record.{columns_agree}
use Rattle.records.proofs.columns_agree.Goals as goal

pub returns : goal.returns
unfolding columns_agree
returns c = rw (c.same.ensures, c.slice_of.ensures, c.same-2.ensures, c.slice_of-2.ensures, c.same-3.ensures, c.slice_of-3.ensures)
