-- `prepare::dust_arms::fill_arms` meets its contract. The loop's invariant: the first i rows are the rule's. Assumes nothing.
use Prim.Native.Nat.{◌+◌}
use lib.ListN.{length}
use Rattle.columns.specs.Column.{row}
use Rattle.columns.proofs.Columns.{Filled}
use Rattle.prepare.specs.Arms.{arms_from}
use Rattle.prepare.proofs.dust_arms.fill_arms.Given as goal

abbrev pub invariant-loop-i : goal.invariant-loop-i
invariant-loop-i l = Filled (λ i. row l.network.class.now i + arms_from l.table l.network.near.now l.network.class.now i) (length l.network.class.now) l.i l.out
