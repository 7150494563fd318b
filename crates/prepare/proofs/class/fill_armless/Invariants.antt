-- `prepare::class::fill_armless` meets its contract. The loop's invariant: the first i rows are the rule's. Assumes nothing.
use lib.ListN.{length}
use Rattle.columns.proofs.Columns.{Filled}
use Rattle.prepare.specs.Classes.{armless}
use Rattle.prepare.proofs.class.fill_armless.Given as goal

abbrev pub invariant-loop-i : goal.invariant-loop-i
invariant-loop-i l = Filled (armless l.profile l.table) (length l.initial.out) l.i l.out
