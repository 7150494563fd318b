-- `keys::pass::pass_levels` meets its contract. The loop's invariant: the dust above the level has given its key. Assumes nothing.
use Prim.Native.Nat.{◌*◌, ◌≤◌}
use lib.ListN.{length}
use Rattle.columns.specs.Column.{row}
use Rattle.circuit.specs.declared.Edge.TheVariants.{Transmits}
use Rattle.circuit.specs.Circuit.{edge_in}
use Rattle.keys.specs.Pass.{Given}
use Rattle.keys.proofs.pass.pass_levels.Given as goal

abbrev pub invariant-loop-level : goal.invariant-loop-level
invariant-loop-level l = (1 ≤ l.level) × Given (length l.network.class.now) (edge_in l.network.near.now l.network.class.now Transmits) (row l.initial.keys) (λ _. 16 * l.level) l.keys
