-- Which refusals a check gives, and what a caller reads from the number that a call answers.
-- Assumes nothing.
use Rattle.std.specs.Prelude.{◌≡◌, true, cond, List, [], ◌∷◌, ℕ, ◌/◌, ◌%◌, ◌≤◌, ◌<◌, leb}
use Rattle.blocks.specs.Kind.{one_of}
use Rattle.refusals.specs.Check.{Checked, accepted, refused}

-- ---- the refusals of a check

-- Where c is a refusal, its number is one of these, and its row below 65,536.
pub record Gives (numbers : List ℕ) (c : Checked) : Type 0 where
  pub number : (n i : ℕ) → c ≡ refused n i → one_of numbers n ≡ true
  pub row : (n i : ℕ) → c ≡ refused n i → i < 65536

-- of the refusal table and, 10, of document 02, Change 5: those that fall on a table, and on a profile and a table
abbrev pub of_table : List ℕ
of_table = 2 ∷ 3 ∷ 4 ∷ 5 ∷ 10 ∷ []

abbrev pub of_input : List ℕ
of_input = 1 ∷ of_table

-- ---- what an answer says

-- An answer below 65,536 is the result of a call that is accepted. Any other is "65,536 times the number plus the row".
unfoldable pub decode : ℕ → Checked
decode r = cond (leb 65536 r) (refused (r / 65536) (r % 65536)) accepted

-- What the answer r tells of a call that its tests bring to c, and that gives refusals of these numbers: what c is; below 65,536 what the
-- call has done; and else that the number is one of these, and that the call kept its buffers as they were.
pub record Tells (numbers : List ℕ) (c : Checked) (r : ℕ) (Done Kept : Type 0) : Type 0 where
  pub check : decode r ≡ c
  pub done : r < 65536 → Done
  pub number : 65536 ≤ r → one_of numbers (r / 65536) ≡ true
  pub kept : 65536 ≤ r → Kept
