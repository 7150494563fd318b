-- `repeater::is_locked` meets its contract, by what is found at the two sides. Assumes nothing.
use Rattle.std.proofs.Common.{Option}
use mathlib.Core.Path.{◌≡◌, refl}
use mathlib.Core.Bool.{Bool, false, ◌||◌}
use Prim.Native.Nat.{ℕ}
use Rattle.columns.specs.Column.{Bytes, Column}
use Rattle.columns.specs.First.{on_found}
use Rattle.places.specs.declared.Pos.{Pos}
use Rattle.world.specs.Find.{find_at}
use Rattle.ports.specs.Ports.{first_side, second_side}
use Rattle.ports.proofs.Near.{found_inside}
use Rattle.ports.proofs.Sides.{by_sides}
use Rattle.repeater.specs.Step.{locks, locks_from, locked_by, is_locked}
use Rattle.repeater.proofs.is_locked.Goals as goal

module _ (t : Bytes) (d : Column) (i : ℕ) where
  abbrev locks_at : Option Pos → Bool
  locks_at p = on_found (locks t d i) false (find_at t p)

  by_either : is_locked t d i ≡ (locks_at (first_side t i) || locks_at (second_side t i))
  unfolding is_locked locks_from
  by_either = by_sides t i (λ s p q. locked_by t d i s ≡ (locks_at p || locks_at q)) (λ a b. refl) refl

pub locks_from-requires : goal.locks_from-requires
locks_from-requires c = let a = c in
    rw c.first_side_row.ensures (found_inside _ (first_side a.args.at.table.now a.args.at.row))

pub locks_from-requires-2 : goal.locks_from-requires-2
locks_from-requires-2 c = let a = c in
    rw c.second_side_row.ensures (found_inside _ (second_side a.args.at.table.now a.args.at.row))

pub returns : goal.returns
returns c = rw by_either (cc)
