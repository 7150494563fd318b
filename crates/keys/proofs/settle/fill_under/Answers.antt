-- `keys::settle::fill_under` meets its contract. Assumes nothing.
use Rattle.power.proofs.Spreading.{spread_zeros}
use Rattle.keys.specs.Settle.{under_of}
use Rattle.keys.proofs.settle.fill_under.Goals as goal

pub returns : goal.returns
unfolding under_of
returns c = spread_zeros _ _ _ _ c.requires.0 _ c.spread.ensures c.zeros.ensures c.requires.1
