-- `figures::dust::with_levels` meets its contract. The loop's invariant: each level has as many more as rows so far are dust of that level.
-- Assumes nothing.
use Rattle.figures.specs.Figures.{count_below, is_dust_at}
use Rattle.figures.proofs.Counting.{Added}
use Rattle.figures.proofs.dust.with_levels.Given as goal

abbrev pub invariant-loop-i : goal.invariant-loop-i
invariant-loop-i l = Added 16 (λ v. count_below (is_dust_at l.table l.signal v) l.i) l.initial.counts l.counts
