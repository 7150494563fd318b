-- The rows of two tables in one list. What stands in quotation marks is document 02's, Change 6.
-- Assumes nothing.
use Rattle.std.specs.Prelude.{◌≡◌, Bool, false, cond, not, ◌&&◌, ◌||◌, List, [], ◌∷◌, ◌++◌, ℕ, zero, suc, ◌+◌, ◌<◌, length, Option, Some, None}
use Rattle.columns.specs.Column.{Bytes, part, same}
use Rattle.places.specs.declared.Pos.{Pos}
use Rattle.places.specs.Places.{same_pos, before}
use Rattle.world.specs.Rows.{rows, pos_of}

-- ---- the rows of a table

-- the n rows of t from row i on, 32 bytes each
unfoldable pub rows_from : Bytes → ℕ → ℕ → List Bytes
rows_from t zero i = []
rows_from t (suc n) i = part 32 t i ∷ rows_from t n (i + 1)

abbrev pub rows_of : Bytes → List Bytes
rows_of t = rows_from t (rows t) 0

-- t has the row r
pub record HasRow (t r : Bytes) : Type 0 where
  pub row : ℕ
  pub inside : row < rows t
  pub is : part 32 t row ≡ r

-- rows one after the other, as a table
unfoldable pub joined : List Bytes → Bytes
joined [] = []
joined (r ∷ rest) = r ++ joined rest

-- ---- two tables

-- where a row of 32 bytes stands
abbrev pub place_of : Bytes → Pos
place_of r = pos_of r 0

-- a row put among rows in order: before the first that stands past it; where one stands at its position it stays, and nothing is put: "is written
-- once"
unfoldable pub insert_row : Bytes → List Bytes → List Bytes
insert_row r [] = r ∷ []
insert_row r (s ∷ rest) =
    let later = insert_row r rest in
    cond (same_pos (place_of r) (place_of s)) (s ∷ rest) (cond (before (place_of r) (place_of s)) (r ∷ s ∷ rest) (s ∷ later))

-- the rows of the first, and each of the second put among them
unfoldable pub union_rows : List Bytes → List Bytes → List Bytes
union_rows first [] = first
union_rows first (r ∷ rest) = insert_row r (union_rows first rest)

-- ---- whether they agree

-- "A position in both is allowed only if the 32 bytes after moving are equal"
abbrev pub clashes : Bytes → Bytes → Bool
clashes r s = same_pos (place_of r) (place_of s) && not (same r s)

abbrev pub any_of : (Bytes → Bool) → List Bytes → Bool
any_of f [] = false
any_of f (r ∷ rest) = f r || any_of f rest

-- "a shared position differs"
unfoldable pub has_clash : List Bytes → List Bytes → Bool
has_clash first second = any_of (λ r. any_of (clashes r) second) first

-- how many rows both have together, or None where they clash
abbrev pub counted : List Bytes → List Bytes → Option ℕ
counted first second = cond (has_clash first second) None (Some (length (union_rows first second)))
