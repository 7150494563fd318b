-- `totals::read` meets its contract. The loop's invariant: what was read so far has the figures so far, and the rest is left. Assumes nothing.
use mathlib.Core.Path.{◌≡◌}
use Prim.Native.Nat.{ℕ}
use lib.ListN.{length, drop}
use Rattle.totals.proofs.Reading.{SoFar}
use Rattle.totals.proofs.read.Given as goal

abbrev pub invariant-loop-ending : goal.invariant-loop-ending
invariant-loop-ending l = (at : ℕ) × (l.rest ≡ drop at l.bytes) × SoFar l.profile l.bytes l.initial.figures l.figures at

abbrev pub decreases-loop-ending : goal.decreases-loop-ending
decreases-loop-ending l = length l.rest
