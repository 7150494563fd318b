-- `spread::raise_around` meets its contract. The loop's invariant: the rows along the first f facings are raised. Assumes nothing.
use Prim.Native.Nat.{◌-◌}
use Rattle.spread.proofs.RaisedSinks.{Around}
use Rattle.spread.proofs.raise_around.Given as goal

abbrev pub invariant-loop-f : goal.invariant-loop-f
invariant-loop-f l = Around l.network.near.now l.network.class.now l.j l.level l.initial.out l.f l.out
