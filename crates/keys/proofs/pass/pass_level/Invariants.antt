-- `keys::pass::pass_level` meets its contract. The loop's invariant: the dust of the level before row j has given its key, and row j is of the level.
-- Assumes nothing.
use mathlib.Core.Path.{◌≡◌}
use mathlib.Core.Bool.{true}
use Prim.Native.Nat.{◌-◌, ◌<◌}
use lib.ListN.{length}
use Rattle.columns.specs.Column.{row}
use Rattle.circuit.specs.declared.Edge.TheVariants.{Transmits}
use Rattle.circuit.specs.Circuit.{edge_in}
use Rattle.keys.specs.Search.{is_within}
use Rattle.keys.proofs.Passing.{Bounds, Passing}
use Rattle.keys.proofs.pass.pass_level.Given as goal

abbrev pub invariant-loop-j : goal.invariant-loop-j
invariant-loop-j l = Bounds l.level l.low l.high
    × Passing (length l.network.class.now) (edge_in l.network.near.now l.network.class.now Transmits) l.level l.initial.keys l.j l.keys
    × (l.j < length l.keys → is_within l.low l.high (row l.keys l.j) ≡ true)

abbrev pub decreases-loop-j : goal.decreases-loop-j
decreases-loop-j l = length l.initial.keys - l.j
