-- The rows at one place by each row, and the searches that find them in the column of the positions.
-- Assumes nothing.
use Rattle.std.specs.Prelude.{◌≡◌, Bool, not, cond, ℕ, ◌+◌, ◌-◌, ◌≤◌, ◌<◌, length, eqb, ltb}
use Rattle.columns.specs.Column.{Bytes, Column, row, tabulate}
use Rattle.columns.specs.First.{first_from, on_found}
use Rattle.world.specs.Rows.{rows}
use Rattle.refusals.specs.Accepted.{Table}
use Rattle.circuit.specs.Circuit.{no_row}
use Rattle.adjacency.specs.Adjacency.{row_by, positions_of}
use Rattle.adjacency.specs.Steps.{here}

-- the column is that of an accepted table's positions
pub record Placed (t : Bytes) (s : Column) : Type 0 where
  pub table : Table t
  pub is : s ≡ positions_of t

-- the rows at place k by each row
abbrev pub column_by : Bytes → ℕ → Column
column_by t k = tabulate (rows t) (λ i. row_by t i k)

-- ---- searches of a column that rises

-- few entries, that rise; and a step from any leads to a number of 64 bits
pub record Rising (s : Column) : Type 0 where
  pub few : length s ≤ 1024
  pub rises : (i : ℕ) → i + 1 < length s → row s i < row s (i + 1)
  pub low : (i : ℕ) → i < length s → here ≤ row s i
  pub high : (i : ℕ) → i < length s → row s i < 9223372036854775808

-- row i is at the number or past it
abbrev pub is_past : Column → ℕ → ℕ → Bool
is_past s want i = not (ltb (row s i) want)

-- row i where it is the number
abbrev pub if_is : Column → ℕ → ℕ → ℕ
if_is s want i = cond (eqb (row s i) want) i no_row

-- the first row at the number or past it, if it is the number
unfoldable pub row_at : Column → ℕ → ℕ
row_at s want = on_found (if_is s want) no_row (first_from (is_past s want) (length s) 0)

-- the number at a step from row i
abbrev pub stepped : Column → ℕ → ℕ → ℕ
stepped s step i = row s i + step - here

-- the row at a step from each row
unfoldable pub walked : Column → ℕ → Column
walked s step = tabulate (length s) (λ i. row_at s (stepped s step i))

-- every row before row p is below the number
pub record Passed (s : Column) (want p : ℕ) : Type 0 where
  pub within : p ≤ length s
  pub earlier : (k : ℕ) → k < p → row s k < want

-- and row p is not
pub record Reached (s : Column) (want p : ℕ) : Type 0 where
  pub passed : Passed s want p
  pub past : p < length s → want ≤ row s p
