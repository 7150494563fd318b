-- Laws of the numbers that a test holds of, and of counts to which one is added at a time.
-- Assumes nothing.
use mathlib.Core.Path.{◌≡◌, refl, sym, ◌∙◌}
use mathlib.Core.Bool.{Bool, true, false}
use Prim.Native.Nat.{ℕ, zero, suc, ◌+◌, ◌-◌, ◌≤◌, ◌<◌, zero-le}
use native.Mathlib.Numerals.{add-one}
use native.Mathlib.Omega.{arith}
use lib.ListN.{length, set, length-set}
use lib.Seq.{get_or-set_same, get_or-set_other}
use lib.Dec.{eqb}
use borrow.Author.Tests.{eqb-true, eqb-false, eq-eqb, ne_eqb}
use Rattle.columns.specs.Column.{Bytes, Column, row, tabulate}
use Rattle.columns.proofs.Columns.{is_tabulate}
use Rattle.blocks.specs.Kind.{is_dust}
use Rattle.world.specs.Rows.{kind_of}
use Rattle.levels.specs.Numbers.{number}
use Rattle.figures.specs.Figures.{count_below, is_dust_at}

-- ---- how many numbers a test holds of

pub number_most : (b : Bool) → number b ≤ 1
number_most true = omega arith
number_most false = omega arith

pub count_most : (f : ℕ → Bool) (n : ℕ) → count_below f n ≤ n
unfolding count_below
count_most f zero = zero-le
count_most f (suc n) = omega (arith, count_most f n, number_most (f n))

pub count_more : (f : ℕ → Bool) (n : ℕ) → count_below f (n + 1) ≡ count_below f n + number (f n)
unfolding count_below
count_more f n = rw add-one

-- a number from 1 up less one
pub eqb_suc : (n k : ℕ) → 1 ≤ n → eqb (n - 1) k ≡ eqb n (k + 1)
eqb_suc n k h = go (eqb (n - 1) k) refl
  where
    go : (b : Bool) → eqb (n - 1) k ≡ b → eqb (n - 1) k ≡ eqb n (k + 1)
    go true e = let same : n - 1 ≡ k = eqb-true (n - 1) k e in e ∙ sym (eq-eqb n (k + 1) (omega arith))
    go false e = e ∙ sym (ne_eqb n (k + 1) (λ q. eqb-false (n - 1) k e (omega arith)))

-- ---- counts of m numbers: g k more at each k than before

pub record Added (m : ℕ) (g : ℕ → ℕ) (old now : Column) : Type 0 where
  pub sized : length now ≡ m
  pub counts : (k : ℕ) → k < m → row now k ≡ row old k + g k

pub added_none : {m : ℕ} {old : Column} → length old ≡ m → Added m (λ k. 0) old old
added_none l = record { sized = l; counts = λ k h. omega arith }

-- one more at a
pub added_one : {m : ℕ} {g : ℕ → ℕ} {old now : Column} → Added m g old now → (a : ℕ) → a < m
    → Added m (λ k. g k + number (eqb a k)) old (set now a (row now a + 1))
added_one {m} {g} {old} {now} h a l =
    record { sized = length-set now a (row now a + 1) ∙ h.sized; counts = λ k n. go k (eqb a k) refl (h.counts k n) }
  where
    go : (k : ℕ) (b : Bool) → eqb a k ≡ b → row now k ≡ row old k + g k → row (set now a (row now a + 1)) k ≡ row old k + (g k + number (eqb a k))
    go k true e was =
        let same : a ≡ k = eqb-true a k e in
        let there : row (set now a (row now a + 1)) a ≡ row now a + 1 = get_or-set_same now a (row now a + 1) 0 (rw h.sized l) in
        let before : row now a ≡ row old a + g a = rw (← same) at was in
        rw (e, ← same, there) (omega (arith, before))
    go k false e was =
        let there : row (set now a (row now a + 1)) k ≡ row now k = get_or-set_other now a k (row now a + 1) 0 (λ q. eqb-false a k e (sym q)) in
        rw (e, there) (omega (arith, was))

pub added_same : {m : ℕ} {g f : ℕ → ℕ} {old now : Column} → Added m g old now → ((k : ℕ) → k < m → g k ≡ f k) → Added m f old now
added_same h e = record { sized = h.sized; counts = λ k l. h.counts k l ∙ rw (e k l) }

pub added_is : {m : ℕ} {g : ℕ → ℕ} {old now : Column} → Added m g old now → now ≡ tabulate m (λ k. row old k + g k)
added_is {m} {g} {old} {now} h = is_tabulate now m (λ k. row old k + g k) h.sized h.counts

-- ---- one row more of a table with these signals

module _ (t : Bytes) (signal : Column) (i : ℕ) {old now : Column} (h : Added 16 (λ l. count_below (is_dust_at t signal l) i) old now) where
  -- a dust row adds one at its level
  pub added_dust : is_dust (kind_of t i) ≡ true → row signal i < 16
      → Added 16 (λ l. count_below (is_dust_at t signal l) (i + 1)) old (set now (row signal i) (row now (row signal i) + 1))
  added_dust d l = added_same (added_one h (row signal i) l) (λ k m. sym (rw (count_more (is_dust_at t signal k) i, d)))

  -- another row adds nothing
  pub added_other : is_dust (kind_of t i) ≡ false → Added 16 (λ l. count_below (is_dust_at t signal l) (i + 1)) old now
  added_other d = added_same h (λ k m. sym (rw (count_more (is_dust_at t signal k) i, d) (omega arith)))
