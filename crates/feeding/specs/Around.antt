-- What stands in contracts of inner functions: the feeders of a row as they are read off the two columns of a table. No call of the editor speaks of
-- them.
-- Assumes nothing.
use Rattle.std.specs.Prelude.{cond, List, [], ◌∷◌, ◌++◌, ℕ, zero, suc, ◌-◌, ◌/◌, ◌%◌, eqb, ltb, replicate}
use Rattle.columns.specs.Column.{Bytes, Column, part, at_front}
use Rattle.places.specs.Places.{North, East, South, West}
use Rattle.circuit.specs.declared.Edge.TheVariants.{Transmits}
use Rattle.classes.specs.Towards.{Above, Below}
use Rattle.circuit.specs.Circuit.{no_row, sink_if, beside_in, edge_in}
use Rattle.feeding.specs.Replaced.{is_renewed}

-- ---- the twelve positions around a dust from which dust can transmit to it, in the table's order

-- the place beside the dust of the k-th: three to the West, North and South by turns, three to the East
abbrev pub around_place : ℕ → ℕ
around_place k = cond (ltb k 3) (West - 1) (cond (ltb k 9) (cond (eqb (k % 2) 1) (North - 1) (South - 1)) (East - 1))

-- and its height: 0 below the cell beside, 1 in it, 2 above it
abbrev pub around_height : ℕ → ℕ
around_height k = cond (ltb k 3) k (cond (ltb k 9) ((k - 3) / 2) (k - 9))

-- ---- the rows there

-- the numbers f 0 to f (n - 1) that are rows
unfoldable pub rows_among : (ℕ → ℕ) → ℕ → List ℕ
rows_among f zero = []
rows_among f (suc n) = rows_among f n ++ cond (eqb (f n) no_row) [] (f n ∷ [])

module _ (near class : Column) (i : ℕ) where
  -- the row at the k-th position around row i, past the block that is beside the lower of the two and under the upper
  unfoldable pub around_in : ℕ → ℕ
  around_in k =
      cond (eqb (around_height k) 0) (beside_in near class (beside_in near class i Below) (around_place k))
      (cond (eqb (around_height k) 1) (beside_in near class i (around_place k)) (beside_in near class (beside_in near class i (around_place k)) Above))

  -- where it transmits to row i
  unfoldable pub feeder_in : ℕ → ℕ
  feeder_in k = let j = around_in k in sink_if (edge_in near class Transmits j i) j

  -- the twelve entries of row i
  unfoldable pub entries_in : List ℕ
  entries_in = at_front (rows_among feeder_in 12) (replicate 12 no_row)

-- the entries of row i where row n of the table t was replaced: those that are written afresh read off its columns
unfoldable pub updated_in : Bytes → Column → Column → ℕ → List ℕ → ℕ → List ℕ
updated_in t near class n list i = cond (is_renewed t n i) (entries_in near class i) (part 12 list i)
