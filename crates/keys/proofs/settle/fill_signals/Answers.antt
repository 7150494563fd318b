-- `keys::settle::fill_signals` meets its contract. Assumes nothing.
use native.Mathlib.Omega.{arith}
use Rattle.columns.proofs.Columns.{filled_all}
use Rattle.keys.specs.Settle.{signals_by}
use Rattle.keys.proofs.settle.fill_signals.Goals as goal

pub returns : goal.returns
unfolding signals_by
returns c = rw c.requires.2 at (filled_all c.loop-i.invariant (omega arith))
