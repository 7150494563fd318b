-- `rounds::run::run` meets its contract. The loop's invariant: none of the rounds so far answered, s0 and w0 are what they left, and the rest of those
-- that can be needed is left. Assumes nothing.
use mathlib.Core.Path.{◌≡◌}
use Prim.Native.Nat.{◌+◌, min}
use Rattle.rounds.proofs.Rounds.{Turning}
use Rattle.rounds.proofs.run.run.Given as goal

abbrev pub invariant-loop-left : goal.invariant-loop-left
invariant-loop-left l = Turning l.network.near.now l.network.class.now l.emitted l.s0 l.w0 l.s1 l.w1 l.rounds × (l.rounds + l.left ≡ min 17 l.limit)

abbrev pub decreases-loop-left : goal.decreases-loop-left
decreases-loop-left l = l.left
