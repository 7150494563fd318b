-- The feeder list, built afresh: what a call is refused for, answers and writes. What stands in quotation marks is document 02's, Change 9.
-- Assumes nothing.
use Rattle.std.specs.Prelude.{◌≡◌, List, [], ◌∷◌, ◌++◌, ℕ, length}
use Rattle.columns.specs.Column.{Bytes}
use Rattle.world.specs.Rows.{rows}
use Rattle.refusals.specs.Answers.{of_input}
use Rattle.refusals.specs.Check.{Checked, also, check_input, answer_of, written}
use Rattle.feeding.specs.Feeders.{feeder_list, is_list_length}

-- 1 to 5 and 10; then 7, row 0, as for a replaced row, where the list has not "twelve 16-bit entries per row": of so many entries
unfoldable pub check_feeders : Bytes → Bytes → ℕ → Checked
check_feeders p t count = also (check_input p t) 7 (is_list_length t count)

-- the numbers that are given
abbrev pub of_feeders : List ℕ
of_feeders = of_input ++ 7 ∷ []

-- The whole of a call: the answer is the number of rows, and the list is "a list built afresh"; or it is the refusal, and every entry is as it was.
pub record Feeds (p t : Bytes) (list list' : List ℕ) (r : ℕ) : Type 0 where
  pub answer : r ≡ answer_of (check_feeders p t (length list)) (rows t)
  pub entries : list' ≡ written (check_feeders p t (length list)) list (feeder_list p t)
