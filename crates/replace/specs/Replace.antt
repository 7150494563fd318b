-- A row replaced, and the list beside the table: what a call is refused for, answers and writes. What stands in quotation marks is document 02's,
-- Change 9.
-- Assumes nothing.
use Rattle.std.specs.Prelude.{◌≡◌, Bool, not, ◌&&◌, List, [], ◌∷◌, ◌++◌, ℕ, length, eqb, ltb}
use Rattle.columns.specs.Column.{Bytes}
use Rattle.world.specs.Rows.{rows, pos_of}
use Rattle.world.specs.Find.{stands_at}
use Rattle.refusals.specs.Answers.{of_input}
use Rattle.refusals.specs.Check.{Checked, accepted, refuse_row_unless, or_else, also, is_bad, is_overdriven, check_input, answer_of, written}
use Rattle.feeding.specs.Feeders.{is_list_length}
use Rattle.feeding.specs.Replaced.{replaced, updated_list}

-- 4 falls on "a bad new row, or one not of 32 bytes"; else it is good under a profile with bytes for so many kinds
abbrev pub is_good_new : ℕ → Bytes → Bool
is_good_new kinds new = eqb (length new) 32 && not (is_bad kinds new 0)

-- 5 on "another position or no such row"; else it stands where row n does
abbrev pub stands_at_row : Bytes → ℕ → Bytes → Bool
stands_at_row t n new = ltb n (rows t) && stands_at t (pos_of new 0) n

-- 10 on "an overdriven new row"; "all with the row as given"
unfoldable pub check_new : ℕ → Bytes → ℕ → Bytes → Checked
check_new kinds t n new =
    refuse_row_unless 4 n (is_good_new kinds new)
    (refuse_row_unless 5 n (stands_at_row t n new) (refuse_row_unless 10 n (not (is_overdriven new 0)) accepted))

-- "After the old table's checks" these, "then a wrong list length 7", row 0: of a list of so many entries
unfoldable pub check_replace : Bytes → Bytes → ℕ → Bytes → ℕ → Checked
check_replace p t n new count = also (or_else (check_input p t) (check_new (length p) t n new)) 7 (is_list_length t count)

-- the numbers that are given
abbrev pub of_replace : List ℕ
of_replace = of_input ++ 7 ∷ []

-- The whole of a call: the answer is the number of rows, and "table and list are updated"; or it is the refusal, and every byte and entry is as it was.
pub record Replaces (p t t' : Bytes) (n : ℕ) (new : Bytes) (list list' : List ℕ) (r : ℕ) : Type 0 where
  pub answer : r ≡ answer_of (check_replace p t n new (length list)) (rows t)
  pub bytes : t' ≡ written (check_replace p t n new (length list)) t (replaced t n new)
  pub entries : list' ≡ written (check_replace p t n new (length list)) list (updated_list p (replaced t n new) n list)
