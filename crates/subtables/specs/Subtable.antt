-- Some rows of a table, as a table.
-- Assumes nothing.
use Rattle.std.specs.Prelude.{List, [], ◌∷◌, ◌++◌, ℕ}
use Rattle.columns.specs.Column.{Bytes, part}

-- the rows of t that have these numbers, one after the other
unfoldable pub table_of : Bytes → List ℕ → Bytes
table_of t [] = []
table_of t (i ∷ rest) = part 32 t i ++ table_of t rest
