-- `round::make_signals` meets its contract. The loop's invariant: the first i rows are signals, the others are levels yet. Assumes nothing.
use mathlib.Core.Bool.{cond}
use Prim.Native.Nat.{min}
use lib.ListN.{length}
use Rattle.columns.specs.Column.{row}
use Rattle.columns.specs.Signal.{max_signal}
use Rattle.blocks.specs.Kind.{is_dust}
use Rattle.classes.specs.Class.{kind_in}
use Rattle.round.proofs.InPlace.{Changed}
use Rattle.round.proofs.make_signals.Given as goal

abbrev pub invariant-loop-i : goal.invariant-loop-i
invariant-loop-i l = Changed (λ k. cond (is_dust (kind_in (row l.class k))) (min max_signal (row l.initial.levels k)) (row l.emitted k)) (length l.class) l.initial.levels l.i l.levels
