-- `spread::raise_sinks` meets its contract. The loop's invariant: the rows that k ways lead to are raised. Assumes nothing.
use Prim.Native.Nat.{◌-◌}
use Rattle.circuit.specs.Circuit.{ways}
use Rattle.spread.proofs.RaisedSinks.{Raised}
use Rattle.spread.proofs.raise_sinks.Given as goal

abbrev pub invariant-loop-k : goal.invariant-loop-k
invariant-loop-k l = Raised l.edge l.network.near.now l.network.class.now l.j l.level l.initial.out l.k l.out
