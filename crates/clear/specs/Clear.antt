-- A table cleared of the rows that would drop: what a call is refused for, answers and writes. What stands in quotation marks is document 02's, Change 7.
-- Assumes nothing.
use Rattle.std.specs.Prelude.{◌≡◌, ◌&&◌, List, [], ◌∷◌, ◌++◌, ℕ, length, eqb}
use Rattle.columns.specs.Column.{Bytes, Column, at_front}
use Rattle.world.specs.Rows.{rows}
use Rattle.refusals.specs.Answers.{of_input}
use Rattle.refusals.specs.Check.{Checked, also, check_input, answer_of, written}
use Rattle.clearing.specs.Kept.{kept_rows, kept_table, pass_column}

-- 1 to 5 and 10; then 7, row 0, "a wrong length": of the output, in bytes, which is "another table of the same length", or of the column, in entries, of
-- which there is one "per input row"
unfoldable pub check_clear : Bytes → Bytes → ℕ → ℕ → Checked
check_clear p t bytes entries = also (check_input p t) 7 (eqb bytes (length t) && eqb entries (rows t))

-- the numbers that are given
abbrev pub of_clear : List ℕ
of_clear = of_input ++ 7 ∷ []

-- The whole of a call. "The answer is the number kept". "It writes the kept rows to another table of the same length, leaving the rest of it
-- untouched. It also writes, per input row, the pass from 1 in which it went, or 0, in 16 bits". Or the answer is the refusal, and every byte and entry
-- is as it was.
pub record Clears (p t out out' : Bytes) (column column' : Column) (r : ℕ) : Type 0 where
  pub answer : r ≡ answer_of (check_clear p t (length out) (length column)) (length (kept_rows p t))
  pub bytes : out' ≡ written (check_clear p t (length out) (length column)) out (at_front (kept_table p t) out)
  pub entries : column' ≡ written (check_clear p t (length out) (length column)) column (pass_column p t)
