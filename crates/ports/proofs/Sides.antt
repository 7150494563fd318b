-- The two sides of a row are those of `sides_of`.
-- Assumes nothing.
use Rattle.std.proofs.Common.{Option, Some, None}
use mathlib.Core.Bool.{Bool, true, false, cond, ◌||◌}
use Prim.Native.Nat.{ℕ}
use lib.Dec.{eqb}
use Rattle.columns.specs.Column.{Bytes}
use Rattle.places.specs.declared.Pos.{Pos}
use Rattle.places.specs.Places.{North, East, South, West, opposite, beside}
use Rattle.world.specs.Rows.{pos_of, facing_of}
use Rattle.connectivity.specs.Ports.{ahead, across, sides_of}
use Rattle.ports.specs.Ports.{sideward, first_side, second_side}

-- what holds of any two positions, and of none, holds of a row's sides
pub by_sides : (t : Bytes) (i : ℕ) (P : Option (Pos × Pos) → Option Pos → Option Pos → Type 0)
    → ((a b : Pos) → P (Some (a, b)) (Some a) (Some b)) → P None None None → P (sides_of t i) (first_side t i) (second_side t i)
unfolding sides_of across first_side second_side sideward ahead opposite
by_sides t i P both none = go (eqb f North || eqb f South) (eqb f East || eqb f West)
  where
    q : Pos
    q = pos_of t i

    f : ℕ
    f = facing_of t i

    go : (b c : Bool)
        → P (cond b (Some (beside q East, beside q West)) (cond c (Some (beside q North, beside q South)) None))
        (ahead q (cond b East (cond c North 0))) (ahead q (opposite (cond b East (cond c North 0))))
    go true c = both _ _
    go false true = both _ _
    go false false = none
