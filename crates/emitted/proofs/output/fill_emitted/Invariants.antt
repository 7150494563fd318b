-- `emitted::output::fill_emitted` meets its contract. The loop's invariant: the first i rows are the rule's. Assumes nothing.
use lib.ListN.{length}
use Rattle.columns.specs.Column.{row}
use Rattle.columns.proofs.Columns.{Filled}
use Rattle.emitted.specs.Emitted.{emitted_level}
use Rattle.emitted.proofs.output.fill_emitted.Given as goal

abbrev pub invariant-loop-i : goal.invariant-loop-i
invariant-loop-i l = Filled (λ k. emitted_level l.table k (row l.devices k)) (length l.initial.out) l.i l.out
