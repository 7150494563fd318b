-- What a merged table has, in the words of document 02, Change 6, and when two tables clash. The theorems that cite these are in proofs/MergedTables,
-- proofs/Refusals and proofs/Only.
-- Assumes nothing.
use Rattle.std.specs.Prelude.{◌≡◌, ◌⊎◌, ℕ, ◌<◌}
use Rattle.columns.specs.Column.{Bytes, part}
use Rattle.places.specs.declared.Pos.{Pos}
use Rattle.world.specs.Rows.{rows, pos_of}
use Rattle.moving.specs.Move.{moved_row}
use Rattle.unions.specs.Union.{HasRow}

-- r is a row of t, moved
pub record HasMoved (by : Pos) (t r : Bytes) : Type 0 where
  pub row : ℕ
  pub inside : row < rows t
  pub is : moved_row by (part 32 t row) ≡ r

-- "Every input row, the second's moved, is in the result and nothing else is", of the result t
pub record Holds (a b : Bytes) (by : Pos) (t : Bytes) : Type 0 where
  pub first : (r : Bytes) → HasRow a r → HasRow t r
  pub second : (r : Bytes) → HasMoved by b r → HasRow t r
  pub only : (r : Bytes) → HasRow t r → HasRow a r ⊎ HasMoved by b r

-- "a shared position differs": a row of the first and a moved one of the second stand at one position, and are not the same
pub record Differ (a b : Bytes) (by : Pos) : Type 0 where
  pub one : Bytes
  pub other : Bytes
  pub has : HasRow a one
  pub has_moved : HasMoved by b other
  pub shared : pos_of one 0 ≡ pos_of other 0
  pub differ : ¬ (one ≡ other)
