-- `wire::transfer::are_dust` meets its contract. Assumes nothing.
use Rattle.wire.proofs.transfer.are_dust.Goals as goal

pub returns : goal.returns
returns c = rw (← c.kind_of.ensures, ← c.kind_of-2.ensures)
