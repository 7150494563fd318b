-- `power::fill_base` meets its contract. Assumes nothing.
use Rattle.circuit.specs.Circuit.{circuit}
use Rattle.power.specs.Power.{base_of}
use Rattle.power.proofs.Spreading.{spread_zeros}
use Rattle.power.proofs.fill_base.Goals as goal

pub returns : goal.returns
unfolding base_of circuit
returns c = spread_zeros _ _ _ _ c.requires.0 _ c.spread.ensures c.zeros.ensures c.requires.1
