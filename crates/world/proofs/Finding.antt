-- Laws of the look-up.
-- Assumes nothing.
use mathlib.Core.Path.{◌≡◌, refl, ap, sym, ◌∙◌}
use mathlib.Core.Bool.{Bool, true, false, not, true≢false}
use mathlib.Core.Logic.{⊎_elim, by_cases}
use Prim.Native.Nat.{ℕ, zero, suc, ◌+◌, ◌-◌, ◌≤◌, ◌<◌}
use native.Mathlib.Decide.{dec_lt}
use native.Mathlib.Omega.{arith}
use borrow.Author.Tests.{not-true, not-false}
use Rattle.columns.specs.Column.{Bytes}
use Rattle.columns.specs.declared.Found.{Found}
use Rattle.columns.specs.declared.Found.TheVariants.{At, Nothing}
use Rattle.columns.specs.First.{found_if, first_from}
use Rattle.columns.proofs.Truth.{refuted}
use Rattle.columns.proofs.First.{IsFirst, first_at, at_first, first-none, none_first, first_same}
use Rattle.places.specs.declared.Pos.{Pos}
use Rattle.places.specs.Places.{same_pos, before}
use Rattle.places.proofs.Order.{same_pos_true, same_pos_refl, before_irrefl, at_or_past, not_before_trans}
use Rattle.world.specs.Rows.{rows, pos_of}
use Rattle.world.specs.Find.{stands_at, is_at_or_past, first_at_or_past, if_standing, find, InOrder, first_standing}

-- no position comes before itself
not_before_itself : (q : Pos) → before q q ≡ false
not_before_itself q = refuted (before q q) (before_irrefl q)

elsewhere : (p q : Pos) → (p ≡ q → ⊥) → same_pos p q ≡ false
elsewhere p q h = refuted (same_pos p q) (λ e. h (same_pos_true p q e))

before_elsewhere : (p q : Pos) → before p q ≡ true → same_pos p q ≡ false
before_elsewhere p q h = elsewhere p q (λ e. before_irrefl q (rw e at h))

module _ (t : Bytes) (q : Pos) (i : ℕ) (h : find t q ≡ At i) where
  -- the row that is found is the first at or past q, and stands at q
  found : (IsFirst (is_at_or_past t q) 0 (rows t) i) × (stands_at t q i ≡ true)
  unfolding find first_at_or_past
  found = go (first_at_or_past t q) refl h
    where
      here : (k : ℕ) → IsFirst (is_at_or_past t q) 0 (rows t) k → (b : Bool) → stands_at t q k ≡ b → found_if b k Nothing ≡ At i
          → (IsFirst (is_at_or_past t q) 0 (rows t) i) × (stands_at t q i ≡ true)
      here k first true s e = let same : k ≡ i = cc in (rw same at first, rw same at s)
      here k first false s e = let z : ◌≡◌ {A = ℕ} 0 1 = cc in absurd (omega arith)

      go : (x : Found) → first_at_or_past t q ≡ x → if_standing t q x ≡ At i → (IsFirst (is_at_or_past t q) 0 (rows t) i) × (stands_at t q i ≡ true)
      go (At k) e f = here k (first_at (is_at_or_past t q) (rows t) 0 k e) (stands_at t q k) refl f
      go Nothing e f = let z : ◌≡◌ {A = ℕ} 0 1 = cc in absurd (omega arith)

  -- the row that is found at q stands there
  pub found_stands : (i < rows t) × (pos_of t i ≡ q)
  found_stands = let (first, stands) = found in (omega (arith, first.inside), same_pos_true (pos_of t i) q stands)

  -- and is the first of all that do: the early stop never gives a different row
  pub found_first : first_standing t q ≡ At i
  unfolding first_standing
  found_first =
      let (first, stands) = found in
      at_first (stands_at t q) (rows t) 0 i
      (record {
        from = omega arith;
        inside = first.inside;
        holds = stands;
        earlier = λ j l m. before_elsewhere (pos_of t j) q (not-false _ (first.earlier j l m));
      })

-- row k is found at q where it stands there and the rows ahead of it come before q
pub find_first : (t : Bytes) (q : Pos) (k : ℕ) → k < rows t → pos_of t k ≡ q → ((j : ℕ) → j < k → before (pos_of t j) q ≡ true) → find t q ≡ At k
unfolding find first_at_or_past
find_first t q k h stands earlier =
    let first : first_from (is_at_or_past t q) (rows t) 0 ≡ At k =
    at_first (is_at_or_past t q) (rows t) 0 k
    (record { from = omega arith; inside = omega arith; holds = rw stands (rw (not_before_itself q)); earlier = λ j _ l. rw (earlier j l) }) in
    rw (first, stands, same_pos_refl q)

-- tables whose rows have the same positions find the same
pub same_find : (t u : Bytes) → rows t ≡ rows u → ((i : ℕ) → i < rows t → pos_of t i ≡ pos_of u i) → (q : Pos) → find t q ≡ find u q
unfolding find first_at_or_past
same_find t u same_rows places q = ap (if_standing t q) firsts ∙ go (first_from (is_at_or_past u q) (rows u) 0) refl
  where
    firsts : first_from (is_at_or_past t q) (rows t) 0 ≡ first_from (is_at_or_past u q) (rows u) 0
    firsts =
        first_same (is_at_or_past t q) (is_at_or_past u q) (rows t) 0 (λ k _ l. ap (λ r. not (before r q)) (places k (omega arith)))
        ∙ ap (λ n. first_from (is_at_or_past u q) n 0) same_rows

    go : (x : Found) → first_from (is_at_or_past u q) (rows u) 0 ≡ x → if_standing t q x ≡ if_standing u q x
    go Nothing e = refl
    go (At k) e = ap (λ r. found_if (same_pos r q) k Nothing) (places k (omega (arith, (first_at (is_at_or_past u q) (rows u) 0 k e).inside, same_rows)))

-- "its loop is to end at the first row at or past the position": what comes after such a row makes no difference
pub find_ends : (t u : Bytes) (q : Pos) (k : ℕ) → k < rows t → k < rows u → is_at_or_past t q k ≡ true → ((i : ℕ) → i ≤ k → pos_of t i ≡ pos_of u i) → find t q ≡ find u q
unfolding find first_at_or_past
find_ends t u q k g h past places = go (first_from (is_at_or_past t q) (rows t) 0) refl
  where
    at : (j : ℕ) → IsFirst (is_at_or_past t q) 0 (rows t) j → j ≤ k → if_standing t q (At j) ≡ find u q
    at j first l =
        let same : first_from (is_at_or_past u q) (rows u) 0 ≡ At j =
        at_first (is_at_or_past u q) (rows u) 0 j
        (record {
          from = omega arith;
          inside = omega arith;
          holds = rw (← places j l) first.holds;
          earlier = λ i a b. rw (← places i (omega arith)) (first.earlier i a b);
        }) in
        rw (same, places j l)

    go : (x : Found) → first_from (is_at_or_past t q) (rows t) 0 ≡ x → if_standing t q x ≡ find u q
    go Nothing e = absurd (true≢false (sym past ∙ first-none (is_at_or_past t q) (rows t) 0 e k (omega arith) (omega arith)))
    go (At j) e =
        let first : IsFirst (is_at_or_past t q) 0 (rows t) j = first_at (is_at_or_past t q) (rows t) 0 j e in
        by_cases (dec_lt k j) (λ l. absurd (true≢false (sym past ∙ first.earlier k (omega arith) l))) (λ l. at j first (omega arith))

-- ---- rows in order

module _ (t : Bytes) (order : InOrder t) where
  -- no row stands before an earlier one
  steps : (i k : ℕ) → i + k < rows t → before (pos_of t (i + k)) (pos_of t i) ≡ false
  steps i zero h = let same : i + 0 ≡ i = omega arith in rw same (not_before_itself (pos_of t i))
  steps i (suc k) h =
      let next : i + k + 1 ≡ i + suc k = omega arith in
      not_before_trans (pos_of t i) (pos_of t (i + k)) (pos_of t (i + suc k))
      (steps i k (omega arith))
      (rw next at (order.not_before (i + k) (omega arith)))

  later_not_before : (i j : ℕ) → i ≤ j → j < rows t → before (pos_of t j) (pos_of t i) ≡ false
  later_not_before i j g h = let e : i + (j - i) ≡ j = omega arith in rw e at (steps i (j - i) (omega arith))

  -- a row at or past q is followed by such rows alone
  pub at_or_past_on : (q : Pos) (i j : ℕ) → i ≤ j → j < rows t → is_at_or_past t q i ≡ true → is_at_or_past t q j ≡ true
  at_or_past_on q i j g h e =
      rw (not_before_trans q (pos_of t i) (pos_of t j) (not-true _ e) (later_not_before i j g h))

  -- "On rows in order its answers do not change": it is the first row that stands at the position
  pub find_in_order : (q : Pos) → find t q ≡ first_standing t q
  unfolding find first_at_or_past first_standing
  find_in_order q = go (first_at_or_past t q) refl
    where
      go : (x : Found) → first_at_or_past t q ≡ x → if_standing t q x ≡ first_from (stands_at t q) (rows t) 0
      go Nothing e =
          sym (none_first (stands_at t q) (rows t) 0 (λ j l m. before_elsewhere (pos_of t j) q (not-false _ (first-none (is_at_or_past t q) (rows t) 0 e j l m))))
      go (At k) e = here (stands_at t q k) refl
        where
          first : IsFirst (is_at_or_past t q) 0 (rows t) k
          first = first_at (is_at_or_past t q) (rows t) 0 k e

          earlier : (j : ℕ) → j < k → same_pos (pos_of t j) q ≡ false
          earlier j l = before_elsewhere (pos_of t j) q (not-false _ (first.earlier j (omega arith) l))

          here : (b : Bool) → stands_at t q k ≡ b → found_if b k Nothing ≡ first_from (stands_at t q) (rows t) 0
          here true s =
              sym (at_first (stands_at t q) (rows t) 0 k (record { from = omega arith; inside = first.inside; holds = s; earlier = λ j _ l. earlier j l }))
          here false s = sym (none_first (stands_at t q) (rows t) 0 (λ j _ l. by_cases (dec_lt j k) (earlier j) (λ m. later j (omega arith) (omega arith))))
            where
              later : (j : ℕ) → k ≤ j → j < rows t → same_pos (pos_of t j) q ≡ false
              later j l m =
                  elsewhere (pos_of t j) q
                  (λ same.
                  ⊎_elim (λ (at : pos_of t k ≡ q). true≢false (sym (rw at (same_pos_refl q)) ∙ s))
                  (λ past. true≢false (sym (rw same past) ∙ later_not_before k j l m))
                  (at_or_past (pos_of t k) q (not-true _ first.holds)))

  -- nothing is found only where no row stands
  pub find_none : (q : Pos) → find t q ≡ Nothing → (i : ℕ) → i < rows t → pos_of t i ≡ q → ⊥
  unfolding first_standing
  find_none q h i l e =
      let none : same_pos (pos_of t i) q ≡ false = first-none (stands_at t q) (rows t) 0 (sym (find_in_order q) ∙ h) i (omega arith) (omega arith) in
      true≢false (sym (rw e (same_pos_refl q)) ∙ none)
