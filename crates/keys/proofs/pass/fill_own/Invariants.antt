-- `keys::pass::fill_own` meets its contract. The loop's invariant: the first i rows are the rule's. Assumes nothing.
use Prim.Native.Nat.{◌*◌, min}
use lib.ListN.{length}
use Rattle.columns.specs.Column.{row}
use Rattle.columns.specs.Signal.{max_signal}
use Rattle.columns.proofs.Columns.{Filled}
use Rattle.keys.proofs.pass.fill_own.Given as goal

abbrev pub invariant-loop-i : goal.invariant-loop-i
invariant-loop-i l = Filled (λ k. 16 * min max_signal (row l.direct k)) (length l.initial.keys) l.i l.keys
