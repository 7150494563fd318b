-- Laws of a column whose rows are raised.
-- Assumes nothing.
use mathlib.Core.Path.{◌≡◌, refl, sym, ◌∙◌}
use mathlib.Core.Bool.{Bool, true, false, cond, ◌||◌, or-false}
use mathlib.Core.Logic.{by_cases}
use Prim.Native.Nat.{ℕ, ◌≤◌, ◌<◌, max}
use native.Mathlib.Decide.{ℕ_discrete}
use native.Mathlib.Omega.{arith}
use lib.Dec.{eqb}
use lib.ListN.{length, set, length-set}
use lib.Seq.{get_or-set_same, get_or-set_other}
use borrow.Author.Tests.{eq-eqb, ne_eqb}
use Rattle.columns.specs.Column.{Column, row, tabulate}
use Rattle.columns.proofs.Columns.{length_tabulate, row_tabulate, is_tabulate, same_rule}
use Rattle.spread.specs.Spread.{raised}

-- every row of s raised to f
abbrev pub lifted : Column → (ℕ → ℕ) → Column
lifted s f = tabulate (length s) (λ m. max (row s m) (f m))

pub length_lifted : (s : Column) (f : ℕ → ℕ) → length (lifted s f) ≡ length s
length_lifted s f = length_tabulate (length s) 0 _

pub row_lifted : (s : Column) (f : ℕ → ℕ) (m : ℕ) → m < length s → row (lifted s f) m ≡ max (row s m) (f m)
row_lifted s f m l = row_tabulate (length s) _ m l

pub lifted_same : (s : Column) (f g : ℕ → ℕ) → ((m : ℕ) → m < length s → f m ≡ g m) → lifted s f ≡ lifted s g
lifted_same s f g h = same_rule (length s) _ _ (λ m l. rw (h m l) refl)

pub lifted_none : (s : Column) (f : ℕ → ℕ) → ((m : ℕ) → m < length s → f m ≡ 0) → s ≡ lifted s f
lifted_none s f h = is_tabulate s (length s) _ refl (λ m l. rw (h m l) (omega arith))

pub lifted_tabulate : (n : ℕ) (f g : ℕ → ℕ) → lifted (tabulate n f) g ≡ tabulate n (λ m. max (f m) (g m))
lifted_tabulate n f g = rw (length_tabulate n 0 f) (same_rule n _ _ (λ m l. rw (row_tabulate n f m l) refl))

pub lifted_twice : (s : Column) (f g : ℕ → ℕ) → lifted (lifted s f) g ≡ lifted s (λ m. max (f m) (g m))
lifted_twice s f g = lifted_tabulate (length s) _ g ∙ same_rule (length s) _ _ (λ m l. omega arith)

-- ---- one row

module _ (s : Column) (i level : ℕ) where
  pub set_raised : i < length s → set s i (max (row s i) level) ≡ raised s i level
  unfolding raised
  set_raised l = is_tabulate (set s i _) (length s) _ (length-set s i _) (λ m k. by_cases (ℕ_discrete m i) here (there m))
    where
      here : {m : ℕ} → m ≡ i → row (set s i (max (row s i) level)) m ≡ max (row s m) (cond (eqb m i) level 0)
      here {m} e = rw (e, eq-eqb i i refl) (get_or-set_same s i _ 0 l)

      there : (m : ℕ) → ¬ (m ≡ i) → row (set s i (max (row s i) level)) m ≡ max (row s m) (cond (eqb m i) level 0)
      there m n = rw (ne_eqb m i n) (get_or-set_other s i m _ 0 n ∙ omega arith)

  pub past_raised : length s ≤ i → s ≡ raised s i level
  unfolding raised
  past_raised l = lifted_none s _ (λ m k. rw (ne_eqb m i (λ e. omega arith)))

-- ---- some rows

-- a column in which the rows that r says are raised, with one row more
module _ (s : Column) (r : ℕ → Bool) (x level : ℕ) where
  either : (m : ℕ) → max (cond (r m) level 0) (cond (eqb m x) level 0) ≡ cond (r m || eqb x m) level 0
  either m =
      by_cases (ℕ_discrete x m) (λ e. rw (e, eq-eqb m m refl) (go (r m)))
      (λ n. rw (ne_eqb x m n, ne_eqb m x (λ e. n (sym e)), or-false) (omega arith))
    where
      go : (b : Bool) → max (cond b level 0) level ≡ cond (b || true) level 0
      go true = omega arith
      go false = omega arith

  pub raised_also : {now next : Column} → now ≡ lifted s (λ m. cond (r m) level 0) → next ≡ raised now x level
      → next ≡ lifted s (λ m. cond (r m || eqb x m) level 0)
  unfolding raised
  raised_also p q = q ∙ rw p (lifted_twice s _ _ ∙ lifted_same s _ _ (λ m l. either m))
