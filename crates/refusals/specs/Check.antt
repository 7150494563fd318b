-- Which refusal falls on a call, and what the call answers and writes then. What stands in quotation marks is document 01's, or document 02's, Changes
-- 4 and 5.
-- Assumes nothing.
use Rattle.std.specs.Prelude.{◌≡◌, Bool, true, false, not, ◌&&◌, Result, Ok, Err, ℕ, ◌+◌, ◌*◌, ◌-◌, ◌%◌, ◌<◌, length, eqb, leb, ltb}
use Rattle.columns.specs.declared.Found.{Found}
use Rattle.columns.specs.declared.Found.TheVariants.{At, Nothing}
use Rattle.columns.specs.Column.{Bytes}
use Rattle.columns.specs.First.{first_from}
use Rattle.columns.specs.Signal.{max_signal}
use Rattle.blocks.specs.Kind.{Comparator}
use Rattle.places.specs.Places.{before}
use Rattle.world.specs.Rows.{rows, pos_of, kind_of, level_or}
use Rattle.refusals.specs.declared.Refused.{Refused}
use Rattle.layout.specs.Good.{good_profile, good_row}

-- ---- what falls on a call

-- what a call's inputs are checked to: nothing falls on them, or a refusal of a number, at a row
abbrev pub Checked : Type 0
Checked = Result (Unit {0}) Refused

abbrev pub accepted : Checked
accepted = Ok tt

abbrev pub refused : ℕ → ℕ → Checked
refused n i = Err (record { number = n; row = i })

-- ---- one test after the other

-- the refusal of row i where the test fails, or what comes next
abbrev pub refuse_row_unless : ℕ → ℕ → Bool → Checked → Checked
refuse_row_unless n i true next = next
refuse_row_unless n i false next = refused n i

-- the refusal, row 0, where the test fails, or what comes next
abbrev pub refuse_unless : ℕ → Bool → Checked → Checked
refuse_unless n passed next = refuse_row_unless n 0 passed next

-- the refusal at the row found, d rows on, or what comes next
abbrev pub refuse_at : ℕ → ℕ → Found → Checked → Checked
refuse_at n d (At i) next = refused n (i + d)
refuse_at n d Nothing next = next

-- the number of that row fits 16 bits
abbrev pub RowFits : ℕ → Found → Type 0
RowFits d (At i) = i + d < 65536
RowFits d Nothing = Unit {0}

-- the first refusal, or what comes next
abbrev pub or_else : Checked → Checked → Checked
or_else (Ok _) next = next
or_else (Err e) next = Err e

-- the first refusal, or the refusal where one more test fails
abbrev pub also : Checked → ℕ → Bool → Checked
also c n passed = or_else c (refuse_unless n passed accepted)

-- ---- the tests of a profile and a table

-- 4 bad row: "a field outside the layout". The kinds of a profile are those that it has a byte for, and no row may be of another: "with 13 a
-- bulb row is number 4"
abbrev pub is_bad : ℕ → Bytes → ℕ → Bool
is_bad kinds t i = not (good_row t i && ltb (kind_of t i) kinds)

-- 5 misplaced: "a position not after the row before", of row i + 1
abbrev pub is_misplaced : Bytes → ℕ → Bool
is_misplaced t i = not (before (pos_of t i) (pos_of t (i + 1)))

-- 10 overdriven: "comparator rows with a given level above 15"
abbrev pub is_overdriven : Bytes → ℕ → Bool
is_overdriven t i = eqb (kind_of t i) Comparator && ltb max_signal (level_or t i 0)

-- "4 over all rows before 5"; 10 "tested on rows just after 5", "row as for 4": "The row returned is the first offending"
unfoldable pub check_rows : ℕ → Bytes → Checked
check_rows kinds t =
    refuse_at 4 0 (first_from (is_bad kinds t) (rows t) 0)
    (refuse_at 5 1 (first_from (is_misplaced t) (rows t - 1) 0) (refuse_at 10 0 (first_from (is_overdriven t) (rows t) 0) accepted))

-- 2 ragged: "table length not a multiple of 32"; 3 crowded: "more than 1,024 rows"
unfoldable pub check_table : ℕ → Bytes → Checked
check_table kinds t = refuse_unless 2 (eqb (length t % 32) 0) (refuse_unless 3 (leb (rows t) 1024) (check_rows kinds t))

-- 1 profile, and then the table: "Tested in this order"
unfoldable pub check_input : Bytes → Bytes → Checked
check_input p t = refuse_unless 1 (good_profile p) (check_table (length p) t)

-- "A table is accepted if no refusal falls on it or on the profile the call has"
abbrev pub IsAccepted : Bytes → Bytes → Type 0
IsAccepted p t = check_input p t ≡ accepted

-- 10 overdriven, of a device byte for each row: "Device bytes above 15 are turned away"
abbrev pub is_overdriven_device : (ℕ → ℕ) → ℕ → Bool
is_overdriven_device device i = ltb max_signal (device i)

-- of n rows
abbrev pub check_overdriven : (ℕ → ℕ) → ℕ → Checked
check_overdriven device n = refuse_at 10 0 (first_from (is_overdriven_device device) n 0) accepted

-- 6 bad state, of a device column or a state of n rows: "wrong length or value"; "in 6 length before value"; 10 "on a column or state just
-- after 6"
abbrev pub check_values : Bool → (ℕ → Bool) → (ℕ → ℕ) → ℕ → Checked
check_values sized isBadValue device n = refuse_unless 6 sized (refuse_at 6 0 (first_from isBadValue n 0) (check_overdriven device n))

-- ---- what a call answers and writes

-- "65,536 times the number plus the row", or the answer of a call that is not refused
abbrev pub answer_of : Checked → ℕ → ℕ
answer_of (Ok _) done = done
answer_of (Err e) done = 65536 * e.number + e.row

-- what a buffer holds after a call: a refused call writes no byte
abbrev pub written : {A : Type 0} → Checked → A → A → A
written (Ok _) old new = new
written (Err e) old new = old
