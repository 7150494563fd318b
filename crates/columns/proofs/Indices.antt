-- Laws of the indices at which a test holds: which they are, and the loop that writes them to the front of a column.
-- Assumes nothing.
use mathlib.Core.Path.{◌≡◌, refl, ap, sym, ◌∙◌}
use mathlib.Core.Logic.{⊎_elim}
use mathlib.Core.Bool.{Bool, true, false, false≢true}
use mathlib.Core.List.{List, [], ◌∷◌, ◌++◌, append_assoc, append-nil}
use Prim.Native.Nat.{ℕ, zero, suc, ◌+◌, ◌≤◌, ◌<◌}
use native.Mathlib.Nat.{add-zero, zero-add, not-suc-le-zero, eq-or-lt_of_le}
use native.Mathlib.Omega.{arith}
use lib.ListN.{length, set, length-append}
use lib.Seq.{set_at, drop-cons}
use Rattle.columns.specs.Column.{Column, row, at_front}
use Rattle.columns.specs.First.{keep_if, indices_from}

-- one index more at the end
from_more : (f : ℕ → Bool) (n i : ℕ) → indices_from f (n + 1) i ≡ indices_from f n i ++ keep_if (f (i + n)) (i + n) []
unfolding indices_from
from_more f zero i = rw (add-zero i)
from_more f (suc n) i =
    let e : suc n + 1 ≡ suc (n + 1) = omega arith in
    let k : i + 1 + n ≡ i + suc n = omega arith in
    rw (e, indices_from, from_more f n (i + 1), k) (go (f i) (indices_from f n (i + 1)) (keep_if (f (i + suc n)) (i + suc n) []))
  where
    go : (b : Bool) (xs ys : List ℕ) → keep_if b i (xs ++ ys) ≡ keep_if b i xs ++ ys
    go true xs ys = refl
    go false xs ys = refl

pub indices_more : (f : ℕ → Bool) (i : ℕ) → indices_from f (i + 1) 0 ≡ indices_from f i 0 ++ keep_if (f i) i []
indices_more f i = from_more f i 0 ∙ ap (λ k. indices_from f i 0 ++ keep_if (f k) k []) (zero-add i)

-- ---- which they are

-- of n indices at most n are kept
pub length_indices : (f : ℕ → Bool) (n i : ℕ) → length (indices_from f n i) ≤ n
unfolding indices_from
length_indices f zero i = omega arith
length_indices f (suc n) i = go (f i) (length_indices f n (i + 1))
  where
    go : (b : Bool) → length (indices_from f n (i + 1)) ≤ n → length (keep_if b i (indices_from f n (i + 1))) ≤ suc n
    go true h = omega arith
    go false h = omega arith

-- the number x stands in the column
pub record StandsIn (xs : Column) (x : ℕ) : Type 0 where
  pub at : ℕ
  pub inside : at < length xs
  pub is : row xs at ≡ x

pub stands_later : {xs : Column} {x : ℕ} (y : ℕ) → StandsIn xs x → StandsIn (y ∷ xs) x
stands_later y p = record { at = suc p.at; inside = omega (arith, p.inside); is = p.is }

module _ (f : ℕ → Bool) where
  -- the k-th of the indices kept is one of the n from i on, and f holds there
  pub record Kept (i n x : ℕ) : Type 0 where
    pub from : i ≤ x
    pub below : x < i + n
    pub holds : f x ≡ true

  pub index_kept : (n i k : ℕ) → k < length (indices_from f n i) → Kept i n (row (indices_from f n i) k)
  unfolding indices_from
  index_kept zero i k l = absurd (not-suc-le-zero l)
  index_kept (suc n) i k l = go (f i) refl k l (index_kept n (i + 1))
    where
      wider : {x : ℕ} → Kept (i + 1) n x → Kept i (suc n) x
      wider h = record { from = omega (arith, h.from); below = omega (arith, h.below); holds = h.holds }

      go : (b : Bool) → f i ≡ b → (k : ℕ) → k < length (keep_if b i (indices_from f n (i + 1)))
          → ((k : ℕ) → k < length (indices_from f n (i + 1)) → Kept (i + 1) n (row (indices_from f n (i + 1)) k))
          → Kept i (suc n) (row (keep_if b i (indices_from f n (i + 1))) k)
      go true e zero m later = record { from = omega arith; below = omega arith; holds = e }
      go true e (suc k) m later = wider (later k (omega arith))
      go false e k m later = wider (later k m)

  -- they rise
  pub indices_rise : (n i j k : ℕ) → j < k → k < length (indices_from f n i) → row (indices_from f n i) j < row (indices_from f n i) k
  unfolding indices_from
  indices_rise zero i j k l m = absurd (not-suc-le-zero m)
  indices_rise (suc n) i j k l m = go (f i) j k l m (index_kept n (i + 1)) (indices_rise n (i + 1))
    where
      go : (b : Bool) (j k : ℕ) → j < k → k < length (keep_if b i (indices_from f n (i + 1)))
          → ((k : ℕ) → k < length (indices_from f n (i + 1)) → Kept (i + 1) n (row (indices_from f n (i + 1)) k))
          → ((j k : ℕ) → j < k → k < length (indices_from f n (i + 1)) → row (indices_from f n (i + 1)) j < row (indices_from f n (i + 1)) k)
          → row (keep_if b i (indices_from f n (i + 1))) j < row (keep_if b i (indices_from f n (i + 1))) k
      go true j zero l m kept later = absurd (not-suc-le-zero l)
      go true zero (suc k) l m kept later = omega (arith, (kept k (omega arith)).from)
      go true (suc j) (suc k) l m kept later = later j k (omega arith) (omega arith)
      go false j k l m kept later = later j k l m

  -- and each at which f holds is one of them
  pub kept_index : (n i x : ℕ) → Kept i n x → StandsIn (indices_from f n i) x
  unfolding indices_from
  kept_index zero i x h = absurd (omega (arith, h.from, h.below))
  kept_index (suc n) i x h = go (f i) refl (kept_index n (i + 1) x)
    where
      later : i < x → Kept (i + 1) n x
      later l = record { from = omega arith; below = omega (arith, h.below); holds = h.holds }

      go : (b : Bool) → f i ≡ b → (Kept (i + 1) n x → StandsIn (indices_from f n (i + 1)) x) → StandsIn (keep_if b i (indices_from f n (i + 1))) x
      go true e r =
          ⊎_elim (λ q. record { at = 0; inside = omega arith; is = q }) (λ l. stands_later i (r (later l))) (eq-or-lt_of_le h.from)
      go false e r =
          ⊎_elim (λ q. absurd (false≢true (sym e ∙ rw q h.holds))) (λ l. r (later l)) (eq-or-lt_of_le h.from)

-- none is kept where f holds nowhere
pub indices_none : (f : ℕ → Bool) (n i : ℕ) → ((k : ℕ) → i ≤ k → k < i + n → f k ≡ false) → indices_from f n i ≡ []
unfolding indices_from
indices_none f zero i h = refl
indices_none f (suc n) i h = rw (h i (omega arith) (omega arith)) (indices_none f n (i + 1) (λ k a b. h k (omega arith) (omega arith)))

-- two tests that answer alike keep alike
pub indices_same : (f g : ℕ → Bool) (n i : ℕ) → ((k : ℕ) → i ≤ k → k < i + n → f k ≡ g k) → indices_from f n i ≡ indices_from g n i
unfolding indices_from
indices_same f g zero i h = refl
indices_same f g (suc n) i h =
    rw (h i (omega arith) (omega arith), indices_same f g n (i + 1) (λ k a b. h k (omega arith) (omega arith))) refl

-- those below a later bound are the same, where f does not hold in between
pub indices_past : (f : ℕ → Bool) (b d : ℕ) → ((k : ℕ) → b ≤ k → k < b + d → f k ≡ false) → indices_from f (b + d) 0 ≡ indices_from f b 0
indices_past f b zero h = rw (add-zero b)
indices_past f b (suc d) h =
    let next : b + suc d ≡ b + d + 1 = omega arith in
    rw (next, indices_more f (b + d), h (b + d) (omega arith) (omega arith), append-nil) (indices_past f b d (λ k l m. h k l (omega arith)))

-- ---- a list at the front of a column, with one number more

pub front_more : (xs old : Column) (count x : ℕ) → count ≡ length xs → count < length old → set (at_front xs old) count x ≡ at_front (xs ++ (x ∷ [])) old
front_more xs old count x e l =
    let long : length (xs ++ (x ∷ [])) ≡ suc (length xs) = rw length-append (omega arith) in
    rw (drop-cons old (length xs) 0 (omega arith), set_at xs _ _ x count (sym e), long, append_assoc)

-- ---- after i indices, those at which f holds are at the front of the column

pub record Listed (f : ℕ → Bool) (i : ℕ) (old now : Column) (count : ℕ) : Type 0 where
  pub counted : count ≡ length (indices_from f i 0)
  pub few : count ≤ i
  pub is : now ≡ at_front (indices_from f i 0) old

pub listed_none : {f : ℕ → Bool} {old : Column} → Listed f 0 old old 0
unfolding indices_from
listed_none = record { counted = refl; few = omega arith; is = refl }

module _ {f : ℕ → Bool} {i : ℕ} {old now : Column} {count : ℕ} (h : Listed f i old now count) where
  pub listed_pass : f i ≡ false → Listed f (i + 1) old now count
  listed_pass e =
      let more : indices_from f (i + 1) 0 ≡ indices_from f i 0 = rw (indices_more f i, e, append-nil) in
      record { counted = rw more h.counted; few = omega (arith, h.few); is = rw more h.is }

  pub listed_more : f i ≡ true → i < length old → Listed f (i + 1) old (set now count i) (count + 1)
  listed_more e l =
      let more : indices_from f (i + 1) 0 ≡ indices_from f i 0 ++ (i ∷ []) = rw (indices_more f i, e) in
      record {
        counted = rw (more, length-append) (omega (arith, h.counted));
        few = omega (arith, h.few);
        is = rw (h.is, more) (front_more (indices_from f i 0) old count i h.counted (omega (arith, h.few)));
      }
