-- Document 02, Change 5: where number 10 is given, at which row, and what goes before it. No row of an accepted table is overdriven: that is `low`
-- of `Table`. In a name 04 is for the tests as they were before this change, with Change 4.
-- Assumes nothing.
use mathlib.Core.Path.{◌≡◌, refl, ap, sym, ◌∙◌}
use mathlib.Core.Bool.{Bool, true, false}
use Prim.Native.Nat.{ℕ, ◌+◌, ◌-◌, ◌%◌, ◌≤◌, ◌<◌, zero-le}
use native.Mathlib.Nat.{add-zero}
use native.Mathlib.Omega.{arith}
use lib.ListN.{length}
use lib.Dec.{eqb, leb}
use borrow.Author.Tests.{le-ltb}
use Rattle.columns.specs.declared.Found.{Found}
use Rattle.columns.specs.declared.Found.TheVariants.{At, Nothing}
use Rattle.columns.specs.Column.{Bytes}
use Rattle.columns.specs.First.{first_from}
use Rattle.columns.specs.Signal.{max_signal}
use Rattle.columns.proofs.First.{IsFirst, first_at, at_first, first-none}
use Rattle.world.specs.Rows.{rows}
use Rattle.layout.specs.Good.{good_profile}
use Rattle.refusals.specs.Check.{Checked, accepted, refused, refuse_unless, refuse_at, or_else, is_bad, is_misplaced, is_overdriven, is_overdriven_device, check_overdriven, check_rows, check_table, check_input, check_values}
use Rattle.refusals.proofs.Passed.{same_number, same_row, never, rows_pass, unless_else, rows_else, or_accepted}

-- ---- tests, and those after them

-- a test of each of n rows gives the first at fault: "row as for 4"
first_refused : (m : ℕ) (f : ℕ → Bool) (n i : ℕ) → IsFirst f 0 n i → refuse_at m 0 (first_from f n 0) accepted ≡ refused m i
first_refused m f n i h = rw (at_first f n 0 i h) (ap (refused m) (add-zero i))

refused_first : (m : ℕ) (f : ℕ → Bool) (n : ℕ) {i : ℕ} → refuse_at m 0 (first_from f n 0) accepted ≡ refused m i → IsFirst f 0 n i
refused_first m f n {i} e = go (first_from f n 0) refl e
  where
    go : (x : Found) → first_from f n 0 ≡ x → refuse_at m 0 x accepted ≡ refused m i → IsFirst f 0 n i
    go (At k) is e = let same : k + 0 ≡ i = same_row e in rw (sym (add-zero k) ∙ same) at (first_at f n 0 k is)
    go Nothing is e = never (sym e)

-- a refusal of another number falls later
later_unless : (n m : ℕ) (b : Bool) (next : Checked) {i : ℕ} → ¬ (n ≡ m) → refuse_unless n b next ≡ refused m i → (b ≡ true) × (next ≡ refused m i)
later_unless n m true next other e = (refl, e)
later_unless n m false next other e = absurd (other (same_number e))

later_at : (n m d : ℕ) (f : Found) (next : Checked) {i : ℕ} → ¬ (n ≡ m) → refuse_at n d f next ≡ refused m i → (f ≡ Nothing) × (next ≡ refused m i)
later_at n m d (At k) next other e = absurd (other (same_number e))
later_at n m d Nothing next other e = (refl, e)

-- ---- on rows: "tested on rows just after 5"

module _ (p t : Bytes) where
  -- 1 to 5: the tests of a profile and a table before Change 5
  abbrev pub check_input04 : Checked
  check_input04 =
      refuse_unless 1 (good_profile p)
      (refuse_unless 2 (eqb (length t % 32) 0)
      (refuse_unless 3 (leb (rows t) 1024)
      (refuse_at 4 0 (first_from (is_bad (length p) t) (rows t) 0) (refuse_at 5 1 (first_from (is_misplaced t) (rows t - 1) 0) accepted))))

  -- 10 comes after them, and after it nothing of the rows
  pub just_after_5 : check_input p t ≡ or_else check_input04 (refuse_at 10 0 (first_from (is_overdriven t) (rows t) 0) accepted)
  unfolding check_input check_table check_rows
  just_after_5 =
      let next = refuse_at 10 0 (first_from (is_overdriven t) (rows t) 0) accepted in
      let misplaced = first_from (is_misplaced t) (rows t - 1) 0 in
      rw (
        rows_else 5 1 misplaced accepted next,
        rows_else 4 0 (first_from (is_bad (length p) t) (rows t) 0) (refuse_at 5 1 misplaced accepted) next,
        unless_else 3 (leb (rows t) 1024) _ next,
        unless_else 2 (eqb (length t % 32) 0) _ next,
        unless_else 1 (good_profile p) _ next,
      ) refl

  -- where no row is overdriven, what falls is what fell before the change
  pub input_04 : ((i : ℕ) → i < rows t → is_overdriven t i ≡ false) → check_input p t ≡ check_input04
  input_04 none = just_after_5 ∙ rw (rows_pass 10 0 (is_overdriven t) (rows t) accepted none refl) (or_accepted check_input04)

  -- and it goes before 10, whatever is overdriven
  pub input_04_first : {n i : ℕ} → check_input04 ≡ refused n i → check_input p t ≡ refused n i
  input_04_first h = just_after_5 ∙ rw h refl

  module _ (i : ℕ) where
    -- where 10 is given, none of 1 to 5 falls, and the row is the first that is overdriven;
    pub given_overdriven : check_input p t ≡ refused 10 i → (check_input04 ≡ accepted) × IsFirst (is_overdriven t) 0 (rows t) i
    unfolding check_input check_table check_rows
    given_overdriven h =
        let (profile, h1) = later_unless 1 10 (good_profile p) _ (λ e. omega arith) h in
        let (whole, h2) = later_unless 2 10 (eqb (length t % 32) 0) _ (λ e. omega arith) h1 in
        let (few, h3) = later_unless 3 10 (leb (rows t) 1024) _ (λ e. omega arith) h2 in
        let (good, h4) = later_at 4 10 0 (first_from (is_bad (length p) t) (rows t) 0) _ (λ e. omega arith) h3 in
        let (ordered, h5) = later_at 5 10 1 (first_from (is_misplaced t) (rows t - 1) 0) _ (λ e. omega arith) h4 in
        (rw (profile, whole, few, good, ordered) refl, refused_first 10 (is_overdriven t) (rows t) h5)

    -- and there it is given.
    pub overdriven_given : check_input04 ≡ accepted → IsFirst (is_overdriven t) 0 (rows t) i → check_input p t ≡ refused 10 i
    overdriven_given passed first = just_after_5 ∙ rw passed (first_refused 10 (is_overdriven t) (rows t) i first)

-- ---- on a column or state: "on a column or state just after 6"

module _ (sized : Bool) (isBadValue : ℕ → Bool) (device : ℕ → ℕ) (n : ℕ) where
  -- 6: the tests of a column or state before Change 5
  abbrev pub check_values04 : Checked
  check_values04 = refuse_unless 6 sized (refuse_at 6 0 (first_from isBadValue n 0) accepted)

  -- 10 comes after them
  pub just_after_6 : check_values sized isBadValue device n ≡ or_else check_values04 (check_overdriven device n)
  just_after_6 =
      let next = check_overdriven device n in
      rw (rows_else 6 0 (first_from isBadValue n 0) accepted next, unless_else 6 sized _ next) refl

  -- where no device byte is above 15, what falls is what fell before the change
  pub values_04 : ((i : ℕ) → i < n → device i ≤ max_signal) → check_values sized isBadValue device n ≡ check_values04
  values_04 low =
      just_after_6
      ∙ rw (rows_pass 10 0 (is_overdriven_device device) n accepted (λ i l. le-ltb max_signal (device i) (low i l)) refl) (or_accepted check_values04)

  -- and it goes before 10: a 6 at any row before a 10 at any row
  pub values_04_first : {m i : ℕ} → check_values04 ≡ refused m i → check_values sized isBadValue device n ≡ refused m i
  values_04_first h = just_after_6 ∙ rw h refl

  module _ (i : ℕ) where
    -- where 10 is given, the length and every value are good, and the row is the first whose device byte is above 15;
    pub values_given_overdriven : check_values sized isBadValue device n ≡ refused 10 i
        → (sized ≡ true) × ((j : ℕ) → j < n → isBadValue j ≡ false) × IsFirst (is_overdriven_device device) 0 n i
    values_given_overdriven h =
        let (long, h1) = later_unless 6 10 sized _ (λ e. omega arith) h in
        let (good, h2) = later_at 6 10 0 (first_from isBadValue n 0) _ (λ e. omega arith) h1 in
        (long, λ j l. first-none isBadValue n 0 good j zero-le (omega arith), refused_first 10 (is_overdriven_device device) n h2)

    -- and there it is given.
    pub values_overdriven_given : check_values04 ≡ accepted → IsFirst (is_overdriven_device device) 0 n i
        → check_values sized isBadValue device n ≡ refused 10 i
    values_overdriven_given passed first = just_after_6 ∙ rw passed (first_refused 10 (is_overdriven_device device) n i first)
