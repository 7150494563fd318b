-- `keys::settle::fill_weak` meets its contract. Assumes nothing.
use native.Mathlib.Omega.{arith}
use Rattle.columns.proofs.Columns.{filled_all}
use Rattle.keys.specs.Settle.{weak_by}
use Rattle.keys.proofs.settle.fill_weak.Goals as goal

pub returns : goal.returns
unfolding weak_by
returns c = rw c.requires.1 at (filled_all c.loop-i.invariant (omega arith))
