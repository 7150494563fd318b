-- Laws of the passes: how many there are, and the one in which a row went.
-- Assumes nothing.
use mathlib.Core.Path.{◌≡◌, refl, ap, sym, ◌∙◌}
use mathlib.Core.Logic.{by_cases}
use mathlib.Core.Bool.{Bool, true, false, cond, not, ◌&&◌, true≢false, false≢true}
use mathlib.Core.List.{List, [], ◌∷◌}
use Prim.Native.Nat.{ℕ, zero, suc, ◌+◌, ◌-◌, ◌≤◌, ◌<◌}
use native.Mathlib.Nat.{add-zero, zero-add}
use native.Mathlib.Decide.{dec_lt}
use native.Mathlib.Omega.{arith}
use lib.ListN.{length}
use lib.Dec.{eqb}
use borrow.Author.Tests.{ne_eqb, not-true, not-false}
use Rattle.columns.specs.declared.Found.{Found}
use Rattle.columns.specs.declared.Found.TheVariants.{At, Nothing}
use Rattle.columns.specs.Column.{Bytes, row}
use Rattle.columns.specs.First.{indices_from, first_from, on_found}
use Rattle.columns.proofs.Members.{none_in}
use Rattle.columns.proofs.First.{IsFirst, first_at, at_first, first-none, none_first}
use Rattle.columns.proofs.Truth.{refuted}
use Rattle.columns.proofs.Indices.{index_kept, kept_index}
use Rattle.world.specs.Rows.{rows}
use Rattle.refusals.specs.Accepted.{Table}
use Rattle.passes.specs.Passes.{unnamed_from, issues_among, left, Until}
use Rattle.passes.proofs.Laws.{left_few, until_one}
use Rattle.clearing.specs.Kept.{Goes, clearing, passes_of, is_left}
use Rattle.clearing.specs.Largest.{HeldUpBy}
use Rattle.clearing.proofs.Steps.{lacks_among, still_left, pass_within}
use Rattle.clearing.proofs.Left.{named_among, left_is, left_test, left_before, goes_lacking}
use Rattle.clearing.proofs.Supported.{has_support, lacks_needs, support-of}

-- ---- how many there are

-- without names nothing goes
unnamed_none : (k : ℕ) (xs : List ℕ) → unnamed_from [] k xs ≡ xs
unfolding unnamed_from
unnamed_none k [] = refl
unnamed_none k (x ∷ xs) = ap (λ rest. x ∷ rest) (unnamed_none (k + 1) xs)

module _ (p t : Bytes) where
  -- "until none is named"
  pub passes_until : Until p t (passes_of p t)
  unfolding passes_of
  passes_until = (clearing p t).until

  -- and no other number of passes is
  pub passes_are : (k : ℕ) → Until p t k → passes_of p t ≡ k
  passes_are k u = until_one p t (passes_of p t) k passes_until u

  -- "The passes are bounded by the row count", of whatever table: and with the rows that are kept they are no more than that
  pub passes_few : length (left p t (passes_of p t)) + passes_of p t ≤ rows t
  passes_few = left_few p t (passes_of p t) (λ j l. ne_eqb _ 0 (λ e. passes_until.not_yet j l (none_in (issues_among p t (left p t j)) e)))

  -- once none is named nothing more goes
  stays : (k : ℕ) → issues_among p t (left p t k) ≡ [] → left p t (suc k) ≡ left p t k
  unfolding left
  stays k e = rw e (unnamed_none 0 (left p t k))

  stays_on : (m : ℕ) → left p t (passes_of p t + m) ≡ left p t (passes_of p t)
  stays_on zero = rw (add-zero (passes_of p t)) refl
  stays_on (suc m) =
      let next : passes_of p t + suc m ≡ suc (passes_of p t + m) = omega arith in
      rw next (stays (passes_of p t + m) (rw (stays_on m) passes_until.none) ∙ stays_on m)

  -- a row goes only in a pass that there is
  pub goes_within : (k i : ℕ) → Goes p t k i → k < passes_of p t
  goes_within k i g = by_cases (dec_lt k (passes_of p t)) (λ l. l) λ n.
      let e : passes_of p t + (k - passes_of p t) ≡ k = omega arith in
      let same : left p t k ≡ left p t (passes_of p t) = rw e at (stays_on (k - passes_of p t)) in
      let none : issues_among p t (left p t k) ≡ [] = rw same passes_until.none in
      absurd (false≢true (rw none at g.named))

-- ---- which rows go in a pass

module _ (p t : Bytes) (a : Table t) (k i : ℕ) where
  abbrev numbers : List ℕ
  numbers = indices_from (still_left p t k) (rows t) 0

  is : left p t k ≡ numbers
  is = left_is p t a k

  -- those go that are left after k passes and not after one more,
  goes_in : i < rows t → still_left p t k i ≡ true → still_left p t (suc k) i ≡ false → Goes p t k i
  goes_in l before after =
      let place = kept_index (still_left p t k) (rows t) 0 i (record { from = omega arith; below = omega arith; holds = before }) in
      let lacks = goes_lacking p t k i before after in
      record {
        at = place.at;
        inside = rw is place.inside;
        is = rw is place.is;
        named = rw is (named_among p t a (still_left p t k) place.at place.inside ∙ rw place.is lacks);
      }

  -- and no others
  pub record Going : Type 0 where
    pub inside : i < rows t
    pub before : still_left p t k i ≡ true
    pub after : still_left p t (suc k) i ≡ false

  goes_out : Goes p t k i → Going
  unfolding still_left
  goes_out g =
      let inside : g.at < length numbers = rw is at g.inside in
      let own : row numbers g.at ≡ i = rw is at g.is in
      let kept = index_kept (still_left p t k) (rows t) 0 g.at inside in
      let before : still_left p t k i ≡ true = rw own at kept.holds in
      let lacks : lacks_among p t (still_left p t k) i ≡ true = rw own at (sym (named_among p t a (still_left p t k) g.at inside) ∙ rw is at g.named) in
      record { inside = rw (own, zero-add (rows t)) at kept.below; before = before; after = rw (before, lacks) refl }

-- a row that goes in a later pass than the first was held up by one that went in the pass before
pub goes-after : (p t : Bytes) → Table t → (k i : ℕ) → Goes p t (suc k) i → (j : ℕ) × HeldUpBy p t i j × Goes p t k j
goes-after p t a k i g =
    let going = goes_out p t a (suc k) i g in
    let lacks = goes_lacking p t (suc k) i going.before going.after in
    let held = (left_before p t k i going.before).1 in
    let its = support-of p t a (still_left p t k) i (lacks_needs p t a (still_left p t (suc k)) i lacks) held in
    let gone : still_left p t (suc k) its.support ≡ false =
    refuted (still_left p t (suc k) its.support) (λ e.
    true≢false (sym lacks ∙ has_support p t a (still_left p t (suc k)) i (record { support = its.support; among = e; holds = its.holds }))) in
    (its.support, its.holds, goes_in p t a k its.support its.holds.inside its.among gone)

-- ---- the one in which a row went

-- it is one of them, or 0
pub pass-within : (p t : Bytes) (n i : ℕ) → pass_within p t n i ≤ n
unfolding pass_within
pass-within p t n i = go (first_from (λ k. not (is_left p t k i)) n 1) refl
  where
    go : (x : Found) → first_from (λ k. not (is_left p t k i)) n 1 ≡ x → on_found (λ k. k) 0 x ≤ n
    go Nothing e = omega arith
    go (At j) e = omega (arith, (first_at (λ k. not (is_left p t k i)) n 1 j e).inside)

-- a row that has gone does not come back
gone_on : (p t : Bytes) (i k m : ℕ) → still_left p t k i ≡ false → still_left p t (k + m) i ≡ false
gone_on p t i k zero h = rw (add-zero k) h
gone_on p t i k (suc m) h =
    let next : k + suc m ≡ suc (k + m) = omega arith in
    rw next (refuted (still_left p t (suc (k + m)) i) (λ e. true≢false (sym (left_before p t (k + m) i e).0 ∙ gone_on p t i k m h)))

module _ (p t : Bytes) (a : Table t) (i : ℕ) (l : i < rows t) where
  -- after k passes it has gone
  abbrev has_gone : ℕ → Bool
  has_gone k = not (is_left p t k i)

  gone_test : (k : ℕ) → has_gone k ≡ not (still_left p t k i)
  gone_test k = ap not (left_test p t a k i l)

  gone_later : (j k : ℕ) → j ≤ k → still_left p t j i ≡ false → still_left p t k i ≡ false
  gone_later j k h e = let same : j + (k - j) ≡ k = omega arith in rw same at (gone_on p t i j (k - j) e)

  -- of the first n passes it went in one, or is left after them
  pub pass_left : (n : ℕ) → eqb (pass_within p t n i) 0 ≡ still_left p t n i
  unfolding pass_within still_left
  pass_left n = go (first_from has_gone n 1) refl
    where
      none : (n : ℕ) → first_from has_gone n 1 ≡ Nothing → still_left p t n i ≡ true
      none zero e = refl
      none (suc n) e = not-false (still_left p t (suc n) i) (sym (gone_test (suc n)) ∙ first-none has_gone (suc n) 1 e (suc n) (omega arith) (omega arith))

      go : (x : Found) → first_from has_gone n 1 ≡ x → eqb (on_found (λ k. k) 0 x) 0 ≡ still_left p t n i
      go Nothing e = sym (none n e)
      go (At j) e =
          let first = first_at has_gone n 1 j e in
          let gone : still_left p t j i ≡ false = not-true (still_left p t j i) (sym (gone_test j) ∙ first.holds) in
          ne_eqb j 0 (λ z. omega (arith, first.from)) ∙ sym (gone_later j n (omega (arith, first.inside)) gone)

  -- by one pass more: it goes in that, if it is left before and not after
  pub pass_more : (n : ℕ) → pass_within p t (n + 1) i ≡ cond (still_left p t n i && not (still_left p t (suc n) i)) (n + 1) (pass_within p t n i)
  unfolding pass_within
  pass_more n = rw (← pass_left n) (go (first_from has_gone n 1) refl)
    where
      last : first_from has_gone n 1 ≡ Nothing → (b : Bool) → not (still_left p t (suc n) i) ≡ b → on_found (λ k. k) 0 (first_from has_gone (n + 1) 1) ≡ cond b (n + 1) 0
      last e true g =
          rw (at_first has_gone (n + 1) 1 (n + 1)
          (record {
            from = omega arith;
            inside = omega arith;
            holds = let next : n + 1 ≡ suc n = omega arith in rw next (gone_test (suc n) ∙ g);
            earlier = λ j h m. first-none has_gone n 1 e j h (omega arith);
          }))
          refl
      last e false g =
          rw (none_first has_gone (n + 1) 1 (λ j h m.
          by_cases (dec_lt j (1 + n)) (λ b. first-none has_gone n 1 e j h b)
          (λ c. let same : j ≡ suc n = omega arith in rw same (gone_test (suc n) ∙ g))))
          refl

      go : (x : Found) → first_from has_gone n 1 ≡ x
          → on_found (λ k. k) 0 (first_from has_gone (n + 1) 1) ≡ cond (eqb (on_found (λ k. k) 0 x) 0 && not (still_left p t (suc n) i)) (n + 1) (on_found (λ k. k) 0 x)
      go Nothing e = last e (not (still_left p t (suc n) i)) refl
      go (At j) e =
          let first = first_at has_gone n 1 j e in
          let same : first_from has_gone (n + 1) 1 ≡ At j =
          at_first has_gone (n + 1) 1 j (record { from = first.from; inside = omega (arith, first.inside); holds = first.holds; earlier = first.earlier }) in
          rw (same, ne_eqb j 0 (λ z. omega (arith, first.from))) refl

  -- what it says of a row: "the pass from 1 in which it went"
  pass_first : (n k : ℕ) → pass_within p t n i ≡ suc k → IsFirst has_gone 1 n (suc k)
  unfolding pass_within
  pass_first n k h = go (first_from has_gone n 1) refl h
    where
      go : (x : Found) → first_from has_gone n 1 ≡ x → on_found (λ k. k) 0 x ≡ suc k → IsFirst has_gone 1 n (suc k)
      go Nothing e f = absurd (omega arith)
      go (At j) e f = rw f at (first_at has_gone n 1 j e)

  first_pass : (n k : ℕ) → IsFirst has_gone 1 n (suc k) → pass_within p t n i ≡ suc k
  unfolding pass_within
  first_pass n k h = rw (at_first has_gone n 1 (suc k) h) refl

  pub pass_goes : (n k : ℕ) → pass_within p t n i ≡ suc k → Goes p t k i
  unfolding still_left
  pass_goes n k h = goes_in p t a k i l (before k first) (not-true (still_left p t (suc k) i) (sym (gone_test (suc k)) ∙ first.holds))
    where
      first : IsFirst has_gone 1 n (suc k)
      first = pass_first n k h

      before : (k : ℕ) → IsFirst has_gone 1 n (suc k) → still_left p t k i ≡ true
      before zero first = refl
      before (suc k) first = not-false (still_left p t (suc k) i) (sym (gone_test (suc k)) ∙ first.earlier (suc k) (omega arith) (omega arith))

  pub goes_pass : (n k : ℕ) → k < n → Goes p t k i → pass_within p t n i ≡ suc k
  goes_pass n k m g =
      let going = goes_out p t a k i g in
      first_pass n k
      (record {
        from = omega arith;
        inside = omega arith;
        holds = gone_test (suc k) ∙ ap not going.after;
        earlier = λ j _ h. gone_test j ∙ ap not (left_early j (omega arith) going.before);
      })
    where
      left_early : (j : ℕ) → j ≤ k → still_left p t k i ≡ true → still_left p t j i ≡ true
      left_early j h e = go (still_left p t j i) refl
        where
          go : (b : Bool) → still_left p t j i ≡ b → b ≡ true
          go true f = refl
          go false f = absurd (true≢false (sym e ∙ gone_later j k h f))
