-- `keys::settle::fill_signals` meets its contract. The loop's invariant: the first i rows are the rule's. Assumes nothing.
use mathlib.Core.Bool.{cond}
use lib.ListN.{length}
use Rattle.columns.specs.Column.{row}
use Rattle.columns.proofs.Columns.{Filled}
use Rattle.network.specs.Laws.Keys.{level_of}
use Rattle.blocks.specs.Kind.{is_dust}
use Rattle.classes.specs.Class.{kind_in}
use Rattle.keys.proofs.settle.fill_signals.Given as goal

abbrev pub invariant-loop-i : goal.invariant-loop-i
invariant-loop-i l = Filled (λ k. cond (is_dust (kind_in (row l.class k))) (level_of (row l.keys k)) (row l.emitted k)) (length l.initial.signal) l.i l.signal
