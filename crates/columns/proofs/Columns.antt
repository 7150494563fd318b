-- Laws of a column by its rule, and of the loop that fills one.
-- Assumes nothing.
use mathlib.Core.Path.{◌≡◌, refl, ap, ap₂, sym, ◌∙◌}
use mathlib.Core.Bool.{Bool, true, false, false≢true}
use mathlib.Core.List.{List, [], ◌∷◌}
use Prim.Native.Nat.{ℕ, zero, suc, ◌+◌, ◌≤◌, ◌<◌}
use native.Mathlib.Nat.{zero-add, not-suc-le-zero, le_of_suc-le-suc}
use native.Mathlib.Omega.{arith}
use lib.Dec.{eqb}
use lib.ListN.{length, take, set, replicate, length-set, length-replicate}
use lib.Seq.{length-take-le, ext_get_or, get_or-set_same, get_or-set_other}
use lib.Pointwise.{pointwise}
use Rattle.std.proofs.lemmas.List.{get_or-replicate}
use borrow.Author.Count.{below_more}
use borrow.Author.Tests.{eqb-true, eq-eqb}
use Rattle.columns.specs.Column.{Column, row, tabulate_from, tabulate, same}
use Rattle.columns.proofs.Truth.{and_true}

pub length_tabulate : (n i : ℕ) (f : ℕ → ℕ) → length (tabulate_from i n f) ≡ n
unfolding tabulate_from
length_tabulate zero i f = refl
length_tabulate (suc n) i f = ap suc (length_tabulate n (suc i) f)

row_from : (n i : ℕ) (f : ℕ → ℕ) (k : ℕ) → k < n → row (tabulate_from i n f) k ≡ f (i + k)
unfolding tabulate_from
row_from zero i f k h = absurd (not-suc-le-zero h)
row_from (suc n) i f zero h = ap f (omega arith)
row_from (suc n) i f (suc k) h = row_from n (suc i) f k (le_of_suc-le-suc h) ∙ ap f (omega arith)

pub row_tabulate : (n : ℕ) (f : ℕ → ℕ) (k : ℕ) → k < n → row (tabulate n f) k ≡ f k
row_tabulate n f k h = row_from n 0 f k h ∙ ap f (zero-add k)

-- two columns of n rows that agree at each row are one
pub same_rows : (n : ℕ) (s t : Column) → length s ≡ n → length t ≡ n → ((i : ℕ) → i < n → row s i ≡ row t i) → s ≡ t
same_rows n s t p q h = ext_get_or 0 s t (cc) (λ i l. h i (rw p at l))

-- a column that f gives row by row
pub is_tabulate : (s : Column) (n : ℕ) (f : ℕ → ℕ) → length s ≡ n → ((i : ℕ) → i < n → row s i ≡ f i) → s ≡ tabulate n f
is_tabulate s n f p h = same_rows n s (tabulate n f) p (length_tabulate n 0 f) (λ i l. h i l ∙ sym (row_tabulate n f i l))

-- two rules that agree below n give one column
pub same_rule : (n : ℕ) (f g : ℕ → ℕ) → ((i : ℕ) → i < n → f i ≡ g i) → tabulate n f ≡ tabulate n g
same_rule n f g h = is_tabulate (tabulate n f) n g (length_tabulate n 0 f) (λ i l. row_tabulate n f i l ∙ h i l)

-- ---- a loop that fills a column: the first i of its n rows are those of f

pub record Filled (f : ℕ → ℕ) (n i : ℕ) (s : Column) : Type 0 where
  pub within : i ≤ n
  pub rows : length s ≡ n
  pub passed : (k : ℕ) → k < i → row s k ≡ f k

pub filled_none : {f : ℕ → ℕ} {n : ℕ} {s : Column} → length s ≡ n → Filled f n 0 s
filled_none p = record { within = omega arith; rows = p; passed = λ k l. absurd (not-suc-le-zero l) }

pub filled_more : {f : ℕ → ℕ} {n i : ℕ} {s : Column} {x : ℕ} → Filled f n i s → i < n → x ≡ f i → Filled f n (i + 1) (set s i x)
filled_more {f} {n} {i} {s} {x} h l p =
    record {
      within = omega arith;
      rows = length-set s i x ∙ h.rows;
      passed =
          below_more (λ k. row (set s i x) k ≡ f k) i
          (λ k m. get_or-set_other s i k x 0 (λ q. omega arith) ∙ h.passed k m)
          (get_or-set_same s i x 0 (rw h.rows l) ∙ p);
    }

pub filled_all : {f : ℕ → ℕ} {n i : ℕ} {s : Column} → Filled f n i s → n ≤ i → s ≡ tabulate n f
filled_all {f} {n} {i} {s} h p = is_tabulate s n f h.rows (λ k l. h.passed k (omega arith))

-- one number in every row
pub replicate_rule : (n v : ℕ) → replicate n v ≡ tabulate n (λ _. v)
replicate_rule n v = is_tabulate (replicate n v) n (λ _. v) (length-replicate n v) (λ i l. get_or-replicate n i v 0 l)

-- what `search` is handed at the needs of such a loop
pub ruleset fills = (filled_none, filled_more, filled_all)

-- ---- two lists that the test calls the same are one

pub same_true : (x y : List ℕ) → same x y ≡ true → x ≡ y
unfolding same
same_true [] [] h = refl
same_true [] (y ∷ ys) h = absurd (false≢true h)
same_true (x ∷ xs) [] h = absurd (false≢true h)
same_true (x ∷ xs) (y ∷ ys) h =
    let (p, q) = and_true (eqb x y) (same xs ys) h in ap₂ ◌∷◌ (eqb-true x y p) (same_true xs ys q)

pub same_refl : (x : List ℕ) → same x x ≡ true
unfolding same
same_refl [] = refl
same_refl (x ∷ xs) = rw (eq-eqb x x refl, same_refl xs)

pub same_lengths : (x y : List ℕ) → ¬ (length x ≡ length y) → same x y ≡ false
same_lengths x y n = go (same x y) refl
  where
    go : (b : Bool) → same x y ≡ b → same x y ≡ false
    go true e = absurd (n (ap length (same_true x y e)))
    go false e = e

-- what `==` says of two slices
pub pointwise_same : (x y : List ℕ) → pointwise eqb x y ≡ same x y
unfolding same
pointwise_same [] [] = refl
pointwise_same [] (y ∷ ys) = refl
pointwise_same (x ∷ xs) [] = refl
pointwise_same (x ∷ xs) (y ∷ ys) = rw (pointwise_same xs ys) refl

-- ---- the front of an array of zeros

-- it is as long as was asked
pub length_zeros : (n m : ℕ) → n ≤ m → length (take {A = ℕ} n (replicate m 0)) ≡ n
length_zeros n m h = length-take-le n (replicate m 0) (rw (length-replicate {A = ℕ} m 0) h)
