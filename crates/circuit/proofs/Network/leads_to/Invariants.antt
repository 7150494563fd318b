-- `circuit::Network::leads_to` meets its contract. The loop's invariant: none of the ways passed leads there. Assumes nothing.
use mathlib.Core.Path.{◌≡◌}
use mathlib.Core.Bool.{false}
use Prim.Native.Nat.{◌≤◌}
use lib.Dec.{eqb}
use Rattle.circuit.specs.Circuit.{sink_of, ways, some_below}
use Rattle.circuit.proofs.Network.leads_to.Given as goal

abbrev pub invariant-loop-k : goal.invariant-loop-k
invariant-loop-k l = (l.k ≤ ways l.edge) × (some_below (λ k. eqb (sink_of l.self.near.now l.self.class.now l.edge l.j k) l.i) l.k ≡ false)
