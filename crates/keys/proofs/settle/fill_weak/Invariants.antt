-- `keys::settle::fill_weak` meets its contract. The loop's invariant: the first i rows are the rule's. Assumes nothing.
use Prim.Native.Nat.{max}
use lib.ListN.{length}
use Rattle.columns.specs.Column.{row}
use Rattle.columns.proofs.Columns.{Filled}
use Rattle.network.specs.Laws.Keys.{level_of}
use Rattle.keys.proofs.settle.fill_weak.Given as goal

abbrev pub invariant-loop-i : goal.invariant-loop-i
invariant-loop-i l = Filled (λ k. max (row l.base k) (level_of (row l.under k))) (length l.initial.weak) l.i l.weak
