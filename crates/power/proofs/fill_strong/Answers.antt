-- `power::fill_strong` meets its contract. Assumes nothing.
use Rattle.network.specs.Network.{strong_of}
use Rattle.circuit.specs.Circuit.{circuit}
use Rattle.power.proofs.Spreading.{spread_zeros}
use Rattle.power.proofs.fill_strong.Goals as goal

pub returns : goal.returns
unfolding strong_of circuit
returns c = spread_zeros _ _ _ _ c.requires.0 _ c.spread.ensures c.zeros.ensures c.requires.1
