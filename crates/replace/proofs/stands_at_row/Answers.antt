-- `replace::stands_at_row` meets its contract. Assumes nothing.
use Rattle.replace.proofs.stands_at_row.Goals as goal

pub returns : goal.returns
returns c = rw (c.rows.ensures, ← c.pos_of.ensures, ← c.pos_of-2.ensures, c.same.ensures)
