-- Laws of numbers of which some are rows, in rising order: where these are the rows that pass a test, they are its list.
-- Assumes nothing.
use mathlib.Core.Path.{◌≡◌, refl, ap, sym, ◌∙◌}
use mathlib.Core.Logic.{by_cases}
use mathlib.Core.Bool.{Bool, true, false, cond}
use mathlib.Core.List.{[], ◌∷◌, ◌++◌, append-nil}
use Prim.Native.Nat.{ℕ, zero, suc, ◌+◌, ◌-◌, ◌≤◌, ◌<◌}
use native.Mathlib.Decide.{dec_lt, ℕ_discrete}
use native.Mathlib.Numerals.{add-one}
use native.Mathlib.Omega.{arith}
use lib.Dec.{eqb}
use lib.ListN.{length, length-append}
use borrow.Author.Tests.{eq-eqb, ne_eqb}
use Rattle.columns.specs.First.{indices_from}
use Rattle.columns.proofs.Truth.{refuted}
use Rattle.columns.proofs.Indices.{indices_more, indices_past}
use Rattle.circuit.specs.Circuit.{no_row}
use Rattle.feeding.specs.Around.{rows_among}

-- ---- one number more

module _ (f : ℕ → ℕ) where
  pub among_row : (n : ℕ) → ¬ (f n ≡ no_row) → rows_among f (n + 1) ≡ rows_among f n ++ (f n ∷ [])
  unfolding rows_among
  among_row n h = rw (add-one n, ne_eqb (f n) no_row h) refl

  pub among_none : (n : ℕ) → f n ≡ no_row → rows_among f (n + 1) ≡ rows_among f n
  unfolding rows_among
  among_none n h = rw (add-one n, eq-eqb (f n) no_row h) (append-nil _)

  -- of n numbers at most n are rows
  pub length_among : (n : ℕ) → length (rows_among f n) ≤ n
  unfolding rows_among
  length_among zero = omega arith
  length_among (suc n) = rw length-append (go (eqb (f n) no_row) (length_among n))
    where
      go : (b : Bool) → length (rows_among f n) ≤ n → length (rows_among f n) + length (cond b [] (f n ∷ [])) ≤ suc n
      go true h = omega arith
      go false h = omega arith

-- ---- the rows that pass a test

-- the number is one of the first w
pub record Gives (f : ℕ → ℕ) (w j : ℕ) : Type 0 where
  pub place : ℕ
  pub inside : place < w
  pub is : f place ≡ j

-- those of the first w that are rows are the n rows' that pass the test, in order
pub record Lists (f : ℕ → ℕ) (w : ℕ) (test : ℕ → Bool) (n : ℕ) : Type 0 where
  pub few : n ≤ no_row
  pub passes : (k : ℕ) → k < w → ¬ (f k ≡ no_row) → (f k < n) × (test (f k) ≡ true)
  pub rises : (k m : ℕ) → k < m → m < w → ¬ (f k ≡ no_row) → ¬ (f m ≡ no_row) → f k < f m
  pub all : (j : ℕ) → j < n → test j ≡ true → Gives f w j

module _ {f : ℕ → ℕ} {w : ℕ} {test : ℕ → Bool} {n : ℕ} (l : Lists f w test n) where
  -- the first k have listed the rows below a bound
  record Reached (k : ℕ) : Type 0 where
    bound : ℕ
    within : bound ≤ n
    is : rows_among f k ≡ indices_from test bound 0
    passed : (m : ℕ) → m < k → ¬ (f m ≡ no_row) → f m < bound
    ahead : (m : ℕ) → k ≤ m → m < w → ¬ (f m ≡ no_row) → bound ≤ f m

  -- up to a later bound there is none, where all that are ahead are past it
  between : {k : ℕ} (h : Reached k) (b : ℕ) → h.bound ≤ b → b ≤ n → ((m : ℕ) → k ≤ m → m < w → ¬ (f m ≡ no_row) → b ≤ f m)
      → indices_from test b 0 ≡ indices_from test h.bound 0
  between {k} h b low high past =
      let whole : h.bound + (b - h.bound) ≡ b = omega arith in
      ap (λ b. indices_from test b 0) (sym whole)
      ∙ indices_past test h.bound (b - h.bound) λ j q r. refuted (test j) λ e.
      let g = l.all j (omega arith) e in
      let row : ¬ (f g.place ≡ no_row) = λ x. omega (arith, g.is, l.few) in
      by_cases (dec_lt g.place k) (λ x. omega (arith, g.is, h.passed g.place x row))
      (λ x. omega (arith, g.is, past g.place (omega arith) g.inside row))

  reached : (k : ℕ) → k ≤ w → Reached k
  unfolding rows_among indices_from
  reached zero h = record { bound = 0; within = omega arith; is = refl; passed = λ m q. absurd (omega arith); ahead = λ m _ _ _. omega arith }
  reached (suc k) h = rw (add-one k) at (by_cases (ℕ_discrete (f k) no_row) (none (reached k (omega arith))) (some (reached k (omega arith))))
    where
      none : Reached k → f k ≡ no_row → Reached (k + 1)
      none r e =
          record {
            bound = r.bound;
            within = r.within;
            is = among_none f k e ∙ r.is;
            passed = λ m q row. by_cases (dec_lt m k) (λ x. r.passed m x row) (λ x. let same : m ≡ k = omega arith in absurd (row (ap f same ∙ e)));
            ahead = λ m q. r.ahead m (omega arith);
          }

      some : Reached k → ¬ (f k ≡ no_row) → Reached (k + 1)
      some r row =
          let (inside, passes) = l.passes k (omega arith) row in
          let past : (m : ℕ) → k ≤ m → m < w → ¬ (f m ≡ no_row) → f k ≤ f m = λ m q s other.
          by_cases (dec_lt k m) (λ x. omega (arith, l.rises k m x s row other)) (λ x. let same : k ≡ m = omega arith in rw same (omega arith)) in
          let front : indices_from test (f k) 0 ≡ indices_from test r.bound 0 =
          between r (f k) (r.ahead k (omega arith) (omega arith) row) (omega arith) past in
          record {
            bound = f k + 1;
            within = omega arith;
            is = among_row f k row ∙ rw (r.is, indices_more test (f k), passes, front);
            passed = λ m q other.
                by_cases (dec_lt m k) (λ x. omega (arith, l.rises m k x (omega arith) other row))
                (λ x. let same : m ≡ k = omega arith in rw same (omega arith));
            ahead = λ m q s other. omega (arith, l.rises k m (omega arith) s row other);
          }

  pub lists_all : rows_among f w ≡ indices_from test n 0
  lists_all = let r = reached w (omega arith) in r.is ∙ sym (between r n r.within (omega arith) (λ m q s. absurd (omega arith)))
