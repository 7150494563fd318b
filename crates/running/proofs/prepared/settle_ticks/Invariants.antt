-- `running::prepared::settle_ticks` meets its contract. The loop's invariant: so many ticks are done. Assumes nothing.
use Prim.Native.Nat.{◌≤◌}
use Rattle.running.specs.Running.{ColumnLengths}
use Rattle.running.proofs.Running.{Ticking}
use Rattle.running.proofs.prepared.settle_ticks.Given as goal

abbrev pub invariant-loop-done : goal.invariant-loop-done
invariant-loop-done l = (l._done ≤ l.count) × ColumnLengths l.table l.devices l.signal l.weak l.strong × Ticking l._done l.profile l.table l.initial.state l.state l.devices l.signal l.weak l.strong l.rounds
