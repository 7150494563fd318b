-- `blocks::kind::is_diode` meets its contract. Assumes nothing.
use Rattle.columns.proofs.Truth.{or_none}
use Rattle.blocks.proofs.kind.is_diode.Goals as goal

pub returns : goal.returns
returns c = rw or_none
