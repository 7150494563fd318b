-- Laws of the first index at which a test holds, and of the loop that looks for it.
-- Assumes nothing.
use mathlib.Core.Path.{◌≡◌, refl, ap, sym, ◌∙◌}
use mathlib.Core.Logic.{◌⊎◌, inl, inr, ⊎_elim, by_cases}
use mathlib.Core.Bool.{Bool, true, false, true≢false}
use Prim.Native.Nat.{ℕ, zero, suc, ◌+◌, ◌-◌, ◌≤◌, ◌<◌}
use native.Mathlib.Nat.{le_refl, eq-or-lt_of_le, not-suc-le-zero, le_of_suc-le-suc}
use native.Mathlib.Decide.{ℕ_discrete}
use native.Mathlib.Numerals.{add-one}
use native.Mathlib.Omega.{arith}
use Rattle.columns.specs.declared.Found.TheVariants.{At, Nothing}
use Rattle.columns.proofs.Truth.{and_false_left, and_false_right}
use Rattle.columns.specs.First.{found_if, first_from, all_below}

-- k is the first number from i on, below i + n, at which f holds
pub record IsFirst (f : ℕ → Bool) (i n k : ℕ) : Type 0 where
  pub from : i ≤ k
  pub inside : k < i + n
  pub holds : f k ≡ true
  pub earlier : (j : ℕ) → i ≤ j → j < k → f j ≡ false

-- what is found, is the first
pub first_at : (f : ℕ → Bool) (n i k : ℕ) → first_from f n i ≡ At k → IsFirst f i n k
unfolding first_from
first_at f zero i k h = let z : ◌≡◌ {A = ℕ} 0 1 = cc in absurd (omega arith)
first_at f (suc n) i k h = go (f i) refl h (first_at f n (i + 1) k)
  where
    go : (b : Bool) → f i ≡ b → found_if b i (first_from f n (i + 1)) ≡ At k → (first_from f n (i + 1) ≡ At k → IsFirst f (i + 1) n k) → IsFirst f i (suc n) k
    go true p e r =
        let same : i ≡ k = cc in
        record { from = omega arith; inside = omega arith; holds = rw (← same) p; earlier = λ j l m. absurd (omega arith) }
    go false p e r =
        let later : IsFirst f (i + 1) n k = r e in
        record {
          from = omega arith;
          inside = omega arith;
          holds = later.holds;
          earlier = λ j l m. ⊎_elim (λ q. rw (← q) p) (λ q. later.earlier j (omega arith) m) (eq-or-lt_of_le l);
        }

-- and the first is found
pub at_first : (f : ℕ → Bool) (n i k : ℕ) → IsFirst f i n k → first_from f n i ≡ At k
unfolding first_from
at_first f zero i k h = absurd (omega arith)
at_first f (suc n) i k h = go (eq-or-lt_of_le h.from) (at_first f n (i + 1) k)
  where
    go : (i ≡ k) ⊎ (i < k) → (IsFirst f (i + 1) n k → first_from f n (i + 1) ≡ At k) → found_if (f i) i (first_from f n (i + 1)) ≡ At k
    go (inl e) r = let now : f i ≡ true = rw e h.holds in rw now (ap At e)
    go (inr l) r =
        let now : f i ≡ false = h.earlier i (omega arith) l in
        rw now
        (r (record { from = omega arith; inside = omega arith; holds = h.holds; earlier = λ j a b. h.earlier j (omega arith) b }))

-- nothing is found where f holds nowhere, and only there
pub first-none : (f : ℕ → Bool) (n i : ℕ) → first_from f n i ≡ Nothing → (k : ℕ) → i ≤ k → k < i + n → f k ≡ false
unfolding first_from
first-none f zero i h k a b = absurd (omega arith)
first-none f (suc n) i h k a b = go (f i) refl h (first-none f n (i + 1))
  where
    go : (v : Bool) → f i ≡ v → found_if v i (first_from f n (i + 1)) ≡ Nothing
        → (first_from f n (i + 1) ≡ Nothing → (j : ℕ) → i + 1 ≤ j → j < i + 1 + n → f j ≡ false) → f k ≡ false
    go true p e r = let z : ◌≡◌ {A = ℕ} 0 1 = cc in absurd (omega arith)
    go false p e r = ⊎_elim (λ q. rw (← q) p) (λ q. r e k (omega arith) (omega arith)) (eq-or-lt_of_le a)

pub none_first : (f : ℕ → Bool) (n i : ℕ) → ((k : ℕ) → i ≤ k → k < i + n → f k ≡ false) → first_from f n i ≡ Nothing
unfolding first_from
none_first f zero i h = refl
none_first f (suc n) i h =
    let now : f i ≡ false = h i (omega arith) (omega arith) in
    rw now (none_first f n (i + 1) (λ k a b. h k (omega arith) (omega arith)))

-- what a test finds that holds at n alone, if anywhere
module _ (f : ℕ → Bool) (k n : ℕ) (inside : n < k) (others : (i : ℕ) → i < k → ¬ (i ≡ n) → f i ≡ false) where
  pub only_at : first_from f k 0 ≡ found_if (f n) n Nothing
  only_at = go (f n) refl
    where
      go : (b : Bool) → f n ≡ b → first_from f k 0 ≡ found_if b n Nothing
      go true e = at_first f k 0 n (record { from = omega arith; inside = omega arith; holds = e; earlier = λ j _ l. others j (omega arith) (λ q. omega arith) })
      go false e = none_first f k 0 (λ j _ l. by_cases (ℕ_discrete j n) (λ q. rw q e) (others j (omega arith)))

-- two tests that answer alike find alike
pub first_same : (f g : ℕ → Bool) (n i : ℕ) → ((k : ℕ) → i ≤ k → k < i + n → f k ≡ g k) → first_from f n i ≡ first_from g n i
unfolding first_from
first_same f g zero i h = refl
first_same f g (suc n) i h =
    rw (h i (omega arith) (omega arith), first_same f g n (i + 1) (λ k a b. h k (omega arith) (omega arith))) refl

-- ---- a loop that scans: after i of n numbers the n - i others are left

module _ (f : ℕ → Bool) (n i : ℕ) (h : i < n) where
  left : n - i ≡ suc (n - (i + 1))
  left = omega arith

  pub scan_hit : f i ≡ true → first_from f (n - i) i ≡ At i
  unfolding first_from
  scan_hit e = rw (left, e)

  pub scan_miss : f i ≡ false → first_from f (n - i) i ≡ first_from f (n - (i + 1)) (i + 1)
  unfolding first_from
  scan_miss e = rw (left, e)

pub scan_over : (f : ℕ → Bool) (n i : ℕ) → n ≤ i → first_from f (n - i) i ≡ Nothing
unfolding first_from
scan_over f n i h = let e : n - i ≡ 0 = omega arith in rw e

-- ---- a loop that tests every index below n

pub all_more : (f : ℕ → Bool) (k : ℕ) → all_below f k ≡ true → f k ≡ true → all_below f (k + 1) ≡ true
all_more f k h e = rw (add-one k, h, e)

pub all_fails : (f : ℕ → Bool) (n k : ℕ) → k < n → f k ≡ false → all_below f n ≡ false
all_fails f zero k h e = absurd (not-suc-le-zero h)
all_fails f (suc n) k h e = ⊎_elim (λ p. and_false_right (all_below f n) (f n) (rw (← p) e)) (λ l. and_false_left (all_below f n) (f n) (all_fails f n k l e)) (eq-or-lt_of_le (le_of_suc-le-suc h))

-- two tests that answer alike below n hold of all below n alike
pub all_same : (f g : ℕ → Bool) (n : ℕ) → ((k : ℕ) → k < n → f k ≡ g k) → all_below f n ≡ all_below g n
all_same f g zero h = refl
all_same f g (suc n) h = rw (all_same f g n (λ k l. h k (omega arith)), h n (le_refl _)) refl

-- what holds of all below n holds of each
pub all_at : (f : ℕ → Bool) (n : ℕ) → all_below f n ≡ true → (k : ℕ) → k < n → f k ≡ true
all_at f n h k l = go (f k) refl
  where
    go : (b : Bool) → f k ≡ b → f k ≡ true
    go true e = e
    go false e = absurd (true≢false (sym h ∙ all_fails f n k l e))

-- and what holds of each holds of all below n
pub at_all : (f : ℕ → Bool) (n : ℕ) → ((k : ℕ) → k < n → f k ≡ true) → all_below f n ≡ true
at_all f zero h = refl
at_all f (suc n) h = rw (at_all f n (λ k l. h k (omega arith)), h n (le_refl _)) refl
