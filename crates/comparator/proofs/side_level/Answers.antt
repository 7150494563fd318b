-- `comparator::side_level` meets its contract, by what is found at the two sides. Assumes nothing.
use Rattle.std.proofs.Common.{Option}
use mathlib.Core.Path.{◌≡◌, refl}
use Prim.Native.Nat.{ℕ, max}
use Rattle.columns.specs.Column.{Bytes}
use Rattle.columns.specs.First.{on_found}
use Rattle.places.specs.declared.Pos.{Pos}
use Rattle.world.specs.Find.{find_at}
use Rattle.connectivity.specs.Ports.{sides_of}
use Rattle.ports.specs.Ports.{first_side, second_side}
use Rattle.ports.proofs.Sides.{by_sides}
use Rattle.levels.specs.Numbers.{Numbers, electrical_level}
use Rattle.comparator.specs.Step.{side_level}
use Rattle.comparator.proofs.side_level.Goals as goal

module _ (t : Bytes) (s : Numbers) (i : ℕ) where
  abbrev level_of : Option Pos → ℕ
  level_of p = on_found (electrical_level s) 0 (find_at t p)

  by_larger : side_level t s (sides_of t i) ≡ max (level_of (first_side t i)) (level_of (second_side t i))
  by_larger = by_sides t i (λ x p q. side_level t s x ≡ max (level_of p) (level_of q)) (λ a b. refl) refl

pub returns : goal.returns
returns c = rw by_larger (cc)
