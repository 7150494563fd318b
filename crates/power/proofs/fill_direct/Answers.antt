-- `power::fill_direct` meets its contract. Assumes nothing.
use mathlib.Core.Path.{refl}
use Rattle.circuit.specs.Circuit.{circuit}
use Rattle.power.specs.Power.{direct_of}
use Rattle.power.proofs.Spreading.{spread_over, spread_zeros}
use Rattle.power.proofs.fill_direct.Goals as goal

pub returns : goal.returns
unfolding direct_of circuit
returns c = spread_over _ _ _ _ c.requires.1 _ _ c.spread-2.ensures (spread_zeros _ _ _ _ c.requires.0 _ c.spread.ensures c.zeros.ensures c.requires.2) refl
