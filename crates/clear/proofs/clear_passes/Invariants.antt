-- `clear::clear_passes` meets its contract. The loop's invariant: the passes made are marked. Assumes nothing.
use Prim.Native.Nat.{◌+◌, ◌-◌}
use Rattle.clearing.specs.Kept.{passes_of}
use Rattle.clear.proofs.Passing.{Passing}
use Rattle.clear.proofs.clear_passes.Given as goal

abbrev pub invariant-loop-pass : goal.invariant-loop-pass
invariant-loop-pass l = Passing l.profile l.table l.pass l.passes

abbrev pub decreases-loop-pass : goal.decreases-loop-pass
decreases-loop-pass l = passes_of l.profile l.table + 1 - l.pass
