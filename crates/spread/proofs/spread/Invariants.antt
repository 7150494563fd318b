-- `spread::spread` meets its contract. The loop's invariant: the rows are raised to what arrives from the first j sources. Assumes nothing.
use Prim.Native.Nat.{◌-◌}
use lib.ListN.{length}
use Rattle.spread.proofs.Spreads.{Spread}
use Rattle.spread.proofs.spread.Given as goal

abbrev pub invariant-loop-j : goal.invariant-loop-j
invariant-loop-j l = Spread l.edge l.network.near.now l.network.class.now l.loss l.levels l.initial.out l.j l.out
