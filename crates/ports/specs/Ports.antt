-- The rows at a device's ports: what a look-up of them requires, and the two sides, one by one.
-- Assumes nothing.
use Rattle.std.specs.Prelude.{◌≡◌, cond, ◌||◌, ℕ, ◌<◌, eqb, Option}
use Rattle.columns.specs.declared.Found.{Found}
use Rattle.columns.specs.declared.Found.TheVariants.{At, Nothing}
use Rattle.columns.specs.Column.{Bytes, Column}
use Rattle.places.specs.declared.Pos.{Pos}
use Rattle.places.specs.Places.{North, East, South, West, opposite}
use Rattle.world.specs.Rows.{rows, pos_of, facing_of}
use Rattle.refusals.specs.Accepted.{Table}
use Rattle.connectivity.specs.Ports.{ahead}
use Rattle.circuit.specs.Circuit.{no_row}
use Rattle.adjacency.specs.Adjacency.{near_of}

-- row i of an accepted table, with the rows by each row
pub record Prepared (t : Bytes) (near : Column) (i : ℕ) : Type 0 where
  pub table : Table t
  pub by : near ≡ near_of t
  pub inside : i < rows t

-- what is found is a row of the table
abbrev pub Inside : Bytes → Found → Type 0
Inside t (At j) = j < rows t
Inside t Nothing = Unit {0}

-- the row of an entry
abbrev pub found_in : ℕ → Found
found_in e = cond (eqb e no_row) Nothing (At e)

-- the facing that leads to the first side of a block that has the facing f, 0 where it has no sides
unfoldable pub sideward : ℕ → ℕ
sideward f = cond (eqb f North || eqb f South) East (cond (eqb f East || eqb f West) North 0)

-- the two sides of row i, whatever its kind: `by_sides` says that they are those of `sides_of`
unfoldable pub first_side : Bytes → ℕ → Option Pos
first_side t i = ahead (pos_of t i) (sideward (facing_of t i))

unfoldable pub second_side : Bytes → ℕ → Option Pos
second_side t i = ahead (pos_of t i) (opposite (sideward (facing_of t i)))
