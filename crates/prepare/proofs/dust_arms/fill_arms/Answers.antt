-- `prepare::dust_arms::fill_arms` meets its contract. Assumes nothing.
use native.Mathlib.Omega.{arith}
use Rattle.columns.proofs.Columns.{filled_all}
use Rattle.prepare.specs.Arms.{with_arms}
use Rattle.prepare.proofs.dust_arms.fill_arms.Goals as goal

pub returns : goal.returns
unfolding with_arms
returns c = filled_all c.loop-i.invariant (omega arith)
