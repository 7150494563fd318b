-- Whether the support list is as the original's, of the parts of a record and of the record: operation 4.
-- Assumes nothing.
use Rattle.std.specs.Prelude.{Bool, cond, ◌&&◌, ℕ, ◌/◌, ◌%◌, length, replicate, eqb, leb, ltb}
use Rattle.columns.specs.Column.{Bytes, Column, row, at_front}
use Rattle.columns.specs.First.{all_below}
use Rattle.world.specs.Rows.{rows}
use Rattle.refusals.specs.Check.{answer_of, written}
use Rattle.supports.specs.Supports.{support_issues, check_supports}
use Rattle.records.specs.Record.{entry, slice_of, number, has_parts, most_rows}

-- what the column is filled with before the call; no row has this number
abbrev pub untouched : ℕ
untouched = 65535

-- entry i of a column that has the list at its front and is untouched behind it
abbrev pub listed : Bytes → ℕ → ℕ
listed list i = cond (ltb i (length list / 2)) (entry list i) untouched

abbrev pub entry_agrees : Column → Bytes → ℕ → Bool
entry_agrees column list i = eqb (row column i) (listed list i)

-- the whole column: the list and what it left untouched
unfoldable pub is_listed : Column → Bytes → Bool
is_listed column list =
    eqb (length list % 2) 0 && (leb (length list / 2) (length column) && all_below (entry_agrees column list) (length column))

-- the answer and the column of a call that was lent this column
unfoldable pub supports_agree_in : Column → Bytes → Bytes → Bytes → ℕ → Bool
supports_agree_in column p t list answer =
    let checked = check_supports p t (length column) in
    eqb (answer_of checked (length (support_issues p t))) answer
    && is_listed (written checked column (at_front (support_issues p t) column)) list

unfoldable pub supports_agree : Bytes → Bytes → Bytes → ℕ → Bool
supports_agree p t list answer = leb (rows t) most_rows && supports_agree_in (replicate (rows t) untouched) p t list answer

-- 4: profile, table, list; answer
abbrev pub supports_right : Bytes → Bool
supports_right r = has_parts r 3 4 && supports_agree (slice_of r 0) (slice_of r 1) (slice_of r 2) (number r 3 0)
