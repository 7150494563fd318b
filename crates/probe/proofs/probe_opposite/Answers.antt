-- `probe::probe_opposite` meets its contract. Assumes nothing.
use Rattle.probe.proofs.probe_opposite.Goals as goal

pub returns : goal.returns
returns c = rw (c.from.ensures, c.opposite.ensures, c.facing_of.ensures)
