-- Columns, of one number a row, and rows of several numbers.
-- Assumes nothing.
use Rattle.std.specs.Prelude.{Bool, true, false, ◌&&◌, List, [], ◌∷◌, ◌++◌, ℕ, zero, suc, ◌*◌, length, get_or, take, drop, eqb}

-- what a slice of bytes holds
abbrev pub Bytes : Type 0
Bytes = List ℕ

-- one number a row
abbrev pub Column : Type 0
Column = List ℕ

-- row i of a column, 0 past its end
abbrev pub row : Column → ℕ → ℕ
row s i = get_or s i 0

-- the n rows from row i on that f gives
unfoldable pub tabulate_from : ℕ → ℕ → (ℕ → ℕ) → Column
tabulate_from i zero f = []
tabulate_from i (suc n) f = f i ∷ tabulate_from (suc i) n f

-- the column of n rows that f gives
abbrev pub tabulate : ℕ → (ℕ → ℕ) → Column
tabulate n f = tabulate_from 0 n f

-- ---- rows of w numbers

-- row i of the rows of width w that stand one after the other in s
abbrev pub part : ℕ → List ℕ → ℕ → List ℕ
part w s i = take w (drop (i * w) s)

-- the n rows f i, f (i + 1), .., one after the other
unfoldable pub concat_rows_from : ℕ → ℕ → (ℕ → List ℕ) → List ℕ
concat_rows_from i zero f = []
concat_rows_from i (suc n) f = f i ++ concat_rows_from (suc i) n f

-- the rows f 0 to f (n - 1), one after the other
abbrev pub concat_rows : ℕ → (ℕ → List ℕ) → List ℕ
concat_rows n f = concat_rows_from 0 n f

-- ---- lists

-- the two lists are the same
unfoldable pub same : List ℕ → List ℕ → Bool
same [] [] = true
same [] (y ∷ ys) = false
same (x ∷ xs) [] = false
same (x ∷ xs) (y ∷ ys) = eqb x y && same xs ys

-- the list at the front of a column, and the rest of the column as it was
abbrev pub at_front : List ℕ → Column → Column
at_front new old = new ++ drop (length new) old
