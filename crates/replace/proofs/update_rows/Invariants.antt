-- `replace::update_rows` meets its contract. The loop's invariant: of the rows passed, the entries are those of the updated list. Assumes nothing.
use mathlib.Core.Path.{◌≡◌}
use Prim.Native.Nat.{◌≤◌}
use lib.ListN.{length}
use Rattle.columns.proofs.Parts.{Written}
use Rattle.world.specs.Rows.{rows}
use Rattle.feeding.specs.Around.{updated_in}
use Rattle.replace.proofs.update_rows.Given as goal

abbrev pub invariant-loop-i : goal.invariant-loop-i
invariant-loop-i l = (l.i ≤ rows l.table) × (length l.list ≡ length l.initial.list) × Written 12 (updated_in l.table l.network.near.now l.network.class.now l.n l.initial.list) l.initial.list l.i l.list
