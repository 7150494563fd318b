-- Two tables in one: what a call is refused for, answers and writes. What stands in quotation marks is document 02's, Change 6.
-- Assumes nothing.
use Rattle.std.specs.Prelude.{◌≡◌, not, List, [], ◌∷◌, ◌++◌, map, ℕ, length, eqb, leb}
use Rattle.columns.specs.Column.{Bytes, at_front}
use Rattle.places.specs.declared.Pos.{Pos}
use Rattle.refusals.specs.Answers.{of_table}
use Rattle.refusals.specs.Check.{Checked, accepted, refuse_unless, or_else, check_table, answer_of, written}
use Rattle.moving.specs.Move.{moved_row, on_ground}
use Rattle.unions.specs.Union.{rows_of, joined, union_rows, has_clash}

-- ---- the result

-- the rows of the second, "moved"
abbrev pub moved_rows : Bytes → Pos → List Bytes
moved_rows b by = map (moved_row by) (rows_of b)

-- "the table that holds the first and the moved second": its rows, and its bytes. That it holds these and nothing else is `merged_holds`, that no other
-- accepted table does is `only_merged`.
unfoldable pub merged_rows : Bytes → Bytes → Pos → List Bytes
merged_rows a b by = union_rows (rows_of a) (moved_rows b by)

unfoldable pub merged_table : Bytes → Bytes → Pos → Bytes
merged_table a b by = joined (merged_rows a b by)

-- ---- the refusals, of an output of so many bytes

-- "The first table's checks come before the second's, rows counted in the table at fault". "A bulb row counts as good here": the rows are of the kinds
-- that a profile of 14 bytes has. "The lent output has 32,768 bytes, else number 7"; 11, "if the offset or a moved coordinate is out of range"; 12, "if a
-- shared position differs"; "tested after 7 as 11, 12, then 3, row 0 for each"
unfoldable pub check_merge : Bytes → Bytes → Pos → ℕ → Checked
check_merge a b by bytes =
    or_else (check_table 14 a)
    (or_else (check_table 14 b)
    (refuse_unless 7 (eqb bytes 32768)
    (refuse_unless 11 (on_ground by b)
    (refuse_unless 12 (not (has_clash (rows_of a) (moved_rows b by)))
    (refuse_unless 3 (leb (length (merged_rows a b by)) 1024) accepted)))))

-- the numbers that are given
abbrev pub of_merge : List ℕ
of_merge = of_table ++ 7 ∷ 11 ∷ 12 ∷ []

-- ---- the call

-- What is answered and written of rows, by a check: how many they are, or the refusal; and they at the front of the output, where "what lies past the
-- result is untouched", or every byte as it was.
pub record Writes (c : Checked) (rs : List Bytes) (out out' : Bytes) (r : ℕ) : Type 0 where
  pub answer : r ≡ answer_of c (length rs)
  pub bytes : out' ≡ written c out (at_front (joined rs) out)

-- the whole of a call: "the answer is the result's row count"
abbrev pub Merges : Bytes → Bytes → Pos → Bytes → Bytes → ℕ → Type 0
Merges a b by out out' r = Writes (check_merge a b by (length out)) (merged_rows a b by) out out' r
