-- A table in which one row is replaced, and the list beside it updated. What stands in quotation marks is document 02's, Change 9.
-- Assumes nothing.
use Rattle.std.specs.Prelude.{Bool, cond, ◌&&◌, ◌||◌, List, ℕ, eqb, ℤ, pos, ◌+ℤ◌}
use Rattle.std.specs.Int.Signed.{le_z}
use Rattle.columns.specs.Column.{Bytes, part, concat_rows}
use Rattle.blocks.specs.Kind.{is_dust}
use Rattle.places.specs.declared.Pos.{Pos}
use Rattle.world.specs.Rows.{rows, pos_of, kind_of}
use Rattle.feeding.specs.Feeders.{feeder_entries}

-- "the row of a given number is replaced": row n, by these bytes, and every other row as it was
unfoldable pub replaced : Bytes → ℕ → Bytes → Bytes
replaced t n new = concat_rows (rows t) (λ i. cond (eqb i n) new (part 32 t i))

-- ---- which entries are written

-- "at most two cells away", on one axis
abbrev pub at_most_two_apart : ℤ → ℤ → Bool
at_most_two_apart a b = le_z a (b +ℤ pos 2) && le_z b (a +ℤ pos 2)

-- "on every axis"
unfoldable pub is_near : Pos → Pos → Bool
is_near a b = at_most_two_apart a.x b.x && at_most_two_apart a.y b.y && at_most_two_apart a.z b.z

-- "that row's entries and those of dust at most two cells away on every axis": row i has them, where row n is the one replaced and t the table after it
unfoldable pub is_renewed : Bytes → ℕ → ℕ → Bool
is_renewed t n i = eqb i n || (is_dust (kind_of t i) && is_near (pos_of t n) (pos_of t i))

-- ---- the list

-- t is the table after row n was replaced
module _ (p t : Bytes) (n : ℕ) (list : List ℕ) where
  -- these "are written afresh, all others are left as handed in": the entries of row i
  unfoldable pub updated_entries : ℕ → List ℕ
  updated_entries i = cond (is_renewed t n i) (feeder_entries p t i) (part 12 list i)

  -- and those of all rows
  unfoldable pub updated_list : List ℕ
  updated_list = concat_rows (rows t) updated_entries
