-- What a test says that passes, and tests in a row.
-- Assumes nothing.
use Rattle.std.proofs.Common.{Ok, Err}
use mathlib.Core.Path.{◌≡◌, refl, ap}
use mathlib.Core.Bool.{Bool, true, false, not}
use Prim.Native.Nat.{ℕ, ◌+◌, ◌≤◌, ◌<◌}
use native.Mathlib.Nat.{add-zero, zero-add}
use native.Mathlib.Omega.{arith}
use borrow.Author.Tests.{ltb-false, le-ltb}
use Rattle.columns.specs.declared.Found.{Found}
use Rattle.columns.specs.declared.Found.TheVariants.{At, Nothing}
use Rattle.columns.specs.First.{found_if, first_from}
use Rattle.columns.specs.Signal.{max_signal}
use Rattle.columns.proofs.First.{first_at, first-none, none_first}
use Rattle.refusals.specs.Check.{Checked, accepted, refused, refuse_row_unless, refuse_unless, refuse_at, RowFits, or_else, is_overdriven_device, check_values}

abbrev number_of : Checked → ℕ
number_of (Ok _) = 0
number_of (Err fault) = fault.number

abbrev row_of : Checked → ℕ
row_of (Ok _) = 0
row_of (Err fault) = fault.row

-- refusals that are the same are of one number, at one row
pub same_number : {n m i j : ℕ} → refused n i ≡ refused m j → n ≡ m
same_number e = ap number_of e

pub same_row : {n m i j : ℕ} → refused n i ≡ refused m j → i ≡ j
same_row e = ap row_of e

pub never : {A : Type 0} {n i : ℕ} → refused n i ≡ accepted → A
never e = let z : ◌≡◌ {A = ℕ} 0 1 = cc in absurd (omega arith)

pub passed_row_unless : (n i : ℕ) (b : Bool) (next : Checked) → refuse_row_unless n i b next ≡ accepted → (b ≡ true) × (next ≡ accepted)
passed_row_unless n i true next h = (refl, h)
passed_row_unless n i false next h = never h

pub passed_unless : (n : ℕ) (b : Bool) (next : Checked) → refuse_unless n b next ≡ accepted → (b ≡ true) × (next ≡ accepted)
passed_unless n = passed_row_unless n 0

pub passed_at : (n d : ℕ) (f : Found) (next : Checked) → refuse_at n d f next ≡ accepted → (f ≡ Nothing) × (next ≡ accepted)
passed_at n d (At i) next h = never h
passed_at n d Nothing next h = (refl, h)

pub passed_both : (c next : Checked) → or_else c next ≡ accepted → (c ≡ accepted) × (next ≡ accepted)
passed_both (Ok _) next h = (refl, h)
passed_both (Err fault) next h = never h

pub unless_passes : (n : ℕ) (b : Bool) (next : Checked) → b ≡ true → next ≡ accepted → refuse_unless n b next ≡ accepted
unless_passes n b next h g = rw h g

-- ---- a test of every row below k

module _ (n d : ℕ) (f : ℕ → Bool) (k : ℕ) (next : Checked) where
  pub passed_rows : refuse_at n d (first_from f k 0) next ≡ accepted → ((i : ℕ) → i < k → f i ≡ false) × (next ≡ accepted)
  passed_rows h = let (none, g) = passed_at n d (first_from f k 0) next h in (λ i l. first-none f k 0 none i (omega arith) (omega arith), g)

  pub rows_pass : ((i : ℕ) → i < k → f i ≡ false) → next ≡ accepted → refuse_at n d (first_from f k 0) next ≡ accepted
  rows_pass h g = rw (none_first f k 0 (λ i _ l. h i (omega arith))) g

-- the row found is below k
pub row_fits : (f : ℕ → Bool) (k d : ℕ) → k + d ≤ 65536 → RowFits d (first_from f k 0)
row_fits f k d h = go (first_from f k 0) refl
  where
    go : (x : Found) → first_from f k 0 ≡ x → RowFits d x
    go (At i) e = omega (arith, (first_at f k 0 i e).inside)
    go Nothing e = tt

-- ---- a column or a state: its length, its value at every row below k, and its device byte there

module _ (sized : Bool) (f : ℕ → Bool) (device : ℕ → ℕ) (k : ℕ) where
  -- of a column or a state that passes
  pub record Values : Type 0 where
    pub of_size : sized ≡ true
    pub good : (i : ℕ) → i < k → f i ≡ false
    pub low : (i : ℕ) → i < k → device i ≤ max_signal

  pub passed_values : check_values sized f device k ≡ accepted → Values
  passed_values h =
      let (a, g) = passed_unless 6 sized _ h in
      let (b, e) = passed_rows 6 0 f k _ g in
      let (c, _) = passed_rows 10 0 (is_overdriven_device device) k accepted e in
      record { of_size = a; good = b; low = λ i l. ltb-false _ _ (c i l) }

  pub values_pass : Values → check_values sized f device k ≡ accepted
  values_pass v =
      unless_passes 6 sized _ v.of_size
      (rows_pass 6 0 f k _ v.good (rows_pass 10 0 (is_overdriven_device device) k accepted (λ i l. le-ltb _ _ (v.low i l)) refl))

-- ---- tests in a row

-- the first refusal of three
pub or_assoc : (a b c : Checked) → or_else (or_else a b) c ≡ or_else a (or_else b c)
or_assoc (Ok _) b c = refl
or_assoc (Err fault) b c = refl

-- a refusal at the one row that may be found
pub refuse_only : (m n : ℕ) (b : Bool) (next : Checked) → refuse_at m 0 (found_if b n Nothing) next ≡ refuse_row_unless m n (not b) next
refuse_only m n true next = rw (add-zero n) refl
refuse_only m n false next = refl

-- a test of the one row of a table, n rows on
pub refuse_one : (m n : ℕ) (f : ℕ → Bool) (next : Checked) → refuse_at m n (first_from f 1 0) next ≡ refuse_row_unless m n (not (f 0)) next
unfolding first_from
refuse_one m n f next = go (f 0)
  where
    go : (b : Bool) → refuse_at m n (found_if b 0 Nothing) next ≡ refuse_row_unless m n (not b) next
    go true = rw (zero-add n) refl
    go false = refl

-- a test, and those that come next
row_unless_else : (n i : ℕ) (b : Bool) (c next : Checked) → refuse_row_unless n i b (or_else c next) ≡ or_else (refuse_row_unless n i b c) next
row_unless_else n i true c next = refl
row_unless_else n i false c next = refl

pub unless_else : (n : ℕ) (b : Bool) (c next : Checked) → refuse_unless n b (or_else c next) ≡ or_else (refuse_unless n b c) next
unless_else n = row_unless_else n 0

-- a test of rows, and those that come next
pub rows_else : (n d : ℕ) (f : Found) (c next : Checked) → refuse_at n d f (or_else c next) ≡ or_else (refuse_at n d f c) next
rows_else n d (At i) c next = refl
rows_else n d Nothing c next = refl

-- nothing comes after
pub or_accepted : (c : Checked) → or_else c accepted ≡ c
or_accepted (Ok _) = refl
or_accepted (Err fault) = refl
