-- The feeder list: of each row of a table, under a profile, the dust that transmits into it. What stands in quotation marks is document 02's, Change 9.
-- Assumes nothing.
use Rattle.std.specs.Prelude.{Bool, List, ℕ, ◌*◌, eqb, replicate}
use Rattle.columns.specs.Column.{Bytes, concat_rows, at_front}
use Rattle.columns.specs.First.{indices_from}
use Rattle.world.specs.Rows.{rows}
use Rattle.wire.specs.Transfer.{transmits}
use Rattle.circuit.specs.Circuit.{no_row}

module _ (p t : Bytes) (i : ℕ) where
  -- "the row numbers of all dust that transmits into it, in rising order"
  unfoldable pub feeders_of : List ℕ
  feeders_of = indices_from (λ j. transmits p t j i) (rows t) 0

  -- "twelve 16-bit entries per row": these numbers, "then 65,535". In an accepted table they are no more than twelve (`feeders_most`), and nothing is cut
  unfoldable pub feeder_entries : List ℕ
  feeder_entries = at_front feeders_of (replicate 12 no_row)

-- the entries of all rows, one row after the other
unfoldable pub feeder_list : Bytes → Bytes → List ℕ
feeder_list p t = concat_rows (rows t) (feeder_entries p t)

-- a list of so many entries has "twelve .. per row"
abbrev pub is_list_length : Bytes → ℕ → Bool
is_list_length t count = eqb count (rows t * 12)
