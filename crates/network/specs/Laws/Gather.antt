-- What arrives at a row, as code finds it: from source to source, or from the few rows where an edge can start; and by either of two edges.
-- Proved laws: nobody has to believe them, or read them to know what is promised. Assumes nothing.
use Rattle.std.specs.Prelude.{◌≡◌, Bool, ◌&&◌, ◌||◌}
use Rattle.std.proofs.Math.Path.{refl}
use Rattle.std.proofs.Common.{⊎_elim, le_refl, le_of_eq, not-suc-le-zero, le_of_suc-le-suc, eq-or-lt_of_le, arith, lt-ltb, ltb-true}
use Rattle.std.proofs.Math.Bool.{true, false, cond}
use mathlib.Core.List.Memᴰ
use mathlib.Core.List.{List, [], ◌∷◌, Memᴰ}
use Prim.Native.Nat.{ℕ, zero, suc, ◌+◌, ◌≤◌, ◌<◌, max, zero-le}
use Rattle.std.proofs.Math.Nat.{le_trans, le_antisymm, le-max_left, le-max_right, max-le}
use Rattle.std.proofs.Math.Numerals.{add-one}
use Rattle.std.proofs.Math.Dec.{ltb}
use Rattle.network.specs.Levels.{top, arriving}

-- ---- `top` is the least number that no f j is above

pub le_top : (n : ℕ) (f : ℕ → ℕ) (j : ℕ) → j < n → f j ≤ top n f
unfolding top
le_top zero f j h = absurd (not-suc-le-zero h)
le_top (suc n) f j h =
    ⊎_elim (λ e. rw e (le-max_right _ _)) (λ l. le_trans (le_top n f j l) (le-max_left _ _)) (eq-or-lt_of_le (le_of_suc-le-suc h))

pub top_least : (n : ℕ) (f : ℕ → ℕ) (m : ℕ) → ((j : ℕ) → j < n → f j ≤ m) → top n f ≤ m
unfolding top
top_least zero f m h = zero-le
top_least (suc n) f m h = max-le (top_least n f m (λ j l. h j (omega arith))) (h n (le_refl _))

-- the largest of f at the numbers of a list
unfoldable pub best : List ℕ → (ℕ → ℕ) → ℕ
best [] f = 0
best (x ∷ xs) f = max (f x) (best xs f)

le_best : (xs : List ℕ) (f : ℕ → ℕ) (j : ℕ) → Memᴰ j xs → f j ≤ best xs f
unfolding best
le_best [] f j m = absurd (Memᴰ.not-nil m)
le_best (x ∷ xs) f j m =
    ⊎_elim (λ e. rw e (le-max_left _ _)) (λ t. le_trans (le_best xs f j t) (le-max_right _ _)) (Memᴰ.cases_cons m)

best_least : (xs : List ℕ) (f : ℕ → ℕ) (m : ℕ) → ((j : ℕ) → f j ≤ m) → best xs f ≤ m
unfolding best
best_least [] f m h = zero-le
best_least (x ∷ xs) f m h = max-le (h x) (best_least xs f m h)

-- ---- from source to source

pub arriving_start : (edge : ℕ → ℕ → Bool) (f : ℕ → ℕ) (i : ℕ) → arriving 0 edge f i ≡ 0
unfolding arriving top
arriving_start edge f i = refl

module _ (n : ℕ) (edge : ℕ → ℕ → Bool) (f : ℕ → ℕ) (i : ℕ) where
  -- one source more
  pub arriving_next : arriving (n + 1) edge f i ≡ max (arriving n edge f i) (cond (edge n i) (f n) 0)
  unfolding arriving top
  arriving_next = rw add-one refl

  -- nothing arrives where there is no edge
  pub arriving_none : ((j : ℕ) → j < n → edge j i ≡ false) → arriving n edge f i ≡ 0
  unfolding arriving
  arriving_none h = le_antisymm (top_least n _ 0 (λ j l. rw (h j l) (le_refl 0))) zero-le

  -- ---- from the rows of a list

  -- what j gives, if it is a row with an edge
  abbrev pub given : ℕ → ℕ
  given j = cond (ltb j n && edge j i) (f j) 0

  given_le : (j : ℕ) → given j ≤ arriving n edge f i
  unfolding arriving
  given_le j = go (ltb j n) refl (edge j i) refl
    where
      go : (b : Bool) → ltb j n ≡ b → (t : Bool) → edge j i ≡ t → cond (b && t) (f j) 0 ≤ top n (λ k. cond (edge k i) (f k) 0)
      go true p true q = rw q at (le_top n (λ k. cond (edge k i) (f k) 0) j (ltb-true j n p))
      go true p false q = zero-le
      go false p true q = zero-le
      go false p false q = zero-le

  -- every edge to i starts in a row of the list
  pub arriving_among : (xs : List ℕ) → ((j : ℕ) → j < n → edge j i ≡ true → Memᴰ j xs) → arriving n edge f i ≡ best xs given
  unfolding arriving
  arriving_among xs h = le_antisymm (top_least n _ _ (λ j l. go j l (edge j i) refl)) (best_least xs given _ given_le)
    where
      go : (j : ℕ) → j < n → (t : Bool) → edge j i ≡ t → cond t (f j) 0 ≤ best xs given
      go j l true q = le_trans (le_of_eq (rw (lt-ltb j n l, q) refl)) (le_best xs given j (h j l q))
      go j l false q = zero-le

-- ---- by either of two edges

or_largest : (x y : Bool) (v : ℕ) → cond (x || y) v 0 ≡ max (cond x v 0) (cond y v 0)
or_largest true true v = omega arith
or_largest true false v = omega arith
or_largest false true v = omega arith
or_largest false false v = omega arith

pub arriving_or : (n : ℕ) (a b : ℕ → ℕ → Bool) (f : ℕ → ℕ) (i : ℕ)
    → arriving n (λ j k. a j k || b j k) f i ≡ max (arriving n a f i) (arriving n b f i)
unfolding arriving top
arriving_or zero a b f i = omega arith
arriving_or (suc n) a b f i = rw (arriving_or n a b f i, or_largest (a n i) (b n i) (f n)) (omega arith)
