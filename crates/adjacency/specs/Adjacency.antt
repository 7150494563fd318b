-- The rows by each row of a table: to the North, East, South and West of it, above and below it, and that of its support.
-- Assumes nothing.
use Rattle.std.specs.Prelude.{cond, ℕ, ◌+◌, ◌-◌, ◌*◌, eqb, ℤ, pos, negsuc, Option, Some}
use Rattle.columns.specs.Column.{Bytes, Column, tabulate, concat_rows}
use Rattle.columns.specs.First.{on_found}
use Rattle.places.specs.declared.Pos.{Pos}
use Rattle.places.specs.Places.{beside, above, below}
use Rattle.world.specs.Rows.{rows, pos_of, support_of}
use Rattle.world.specs.Find.{find_at}
use Rattle.classes.specs.Towards.{places, is_beside, Above, Below}
use Rattle.circuit.specs.Circuit.{no_row}

-- the place k by row i
unfoldable pub place_by : Bytes → ℕ → ℕ → Option Pos
place_by t i k =
    cond (is_beside k) (Some (beside (pos_of t i) (k + 1)))
    (cond (eqb k Above) (Some (above (pos_of t i))) (cond (eqb k Below) (Some (below (pos_of t i))) (support_of t i)))

-- the row there
unfoldable pub row_by : Bytes → ℕ → ℕ → ℕ
row_by t i k = on_found (λ j. j) no_row (find_at t (place_by t i k))

-- the rows at each place by each row, place by place
unfoldable pub near_of : Bytes → Column
near_of t = concat_rows places (λ k. tabulate (rows t) (λ i. row_by t i k))

-- ---- positions as numbers that rise in the table's order

-- a coordinate from -1,000,001 on, counted from there
abbrev pub biased : ℤ → ℕ
biased (pos n) = n + 1000001
biased (negsuc n) = 1000000 - n

-- 21 bits for each coordinate
unfoldable pub packed : Pos → ℕ
packed q = biased q.x * 4398046511104 + (biased q.y * 2097152 + biased q.z)

unfoldable pub positions_of : Bytes → Column
positions_of t = tabulate (rows t) (λ i. packed (pos_of t i))
