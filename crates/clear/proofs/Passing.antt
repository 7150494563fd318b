-- The passes, one after the other: what holds of the marks after k of them.
-- Assumes nothing.
use mathlib.Core.Path.{◌≡◌, refl, ap, ap₂, sym, ◌∙◌}
use mathlib.Core.Logic.{by_cases}
use mathlib.Core.Bool.{Bool, true, false, cond, not, ◌&&◌, true≢false}
use mathlib.Core.List.{[]}
use Prim.Native.Nat.{ℕ, ◌+◌, ◌≤◌, ◌<◌}
use native.Mathlib.Decide.{dec_lt}
use native.Mathlib.Omega.{arith}
use lib.ListN.{length, get_or-eq_default}
use lib.Dec.{eqb, ltb}
use borrow.Author.Tests.{not-true, lt-ltb, le-ltb}
use Rattle.columns.specs.Column.{Bytes, Column, row, tabulate}
use Rattle.columns.specs.declared.Found.{Found}
use Rattle.columns.specs.declared.Found.TheVariants.{At, Nothing}
use Rattle.columns.specs.First.{first_from, on_found}
use Rattle.columns.proofs.Columns.{length_tabulate, row_tabulate, same_rule}
use Rattle.columns.proofs.First.{all_at, at_all}
use Rattle.columns.proofs.Truth.{not_false}
use Rattle.world.specs.Rows.{rows, kind_of}
use Rattle.refusals.specs.Accepted.{Table}
use Rattle.supports.specs.Supports.{needs_support}
use Rattle.supports.specs.Rows.{support_row}
use Rattle.passes.specs.Passes.{issues_among, left}
use Rattle.clearing.specs.Kept.{passes_of, pass_of, pass_column}
use Rattle.clearing.proofs.Steps.{lacks_among, still_left, pass_within}
use Rattle.clearing.specs.Largest.{EverySupported}
use Rattle.clearing.proofs.Left.{left_is}
use Rattle.clearing.proofs.Supported.{row_supports, lacks_same, lacks_none, support-of, none-named, named_none}
use Rattle.clearing.proofs.Going.{passes_until, pass-within, pass_left, pass_more}
use Rattle.clear.specs.Marks.{holder_of, holders_of, unmarked, lacks_holder, goes, marked, any_goes}

-- the marks after k passes
abbrev marks : Bytes → Bytes → ℕ → Column
marks p t k = tabulate (rows t) (pass_within p t k)

-- those after every pass
column_marks : (p t : Bytes) → pass_column p t ≡ marks p t (passes_of p t)
unfolding pass_column pass_of pass_within
column_marks p t = refl

-- pass is the number of the next pass, and the column has the marks of those before it, which are no more than there are
pub record Passing (p t : Bytes) (pass : ℕ) (c : Column) : Type 0 where
  pub made : ℕ
  pub number : pass ≡ made + 1
  pub few : made ≤ passes_of p t
  pub is : c ≡ marks p t made

module _ (p t : Bytes) (a : Table t) where
  mark : (k i : ℕ) → i < rows t → row (marks p t k) i ≡ pass_within p t k i
  mark k i l = row_tabulate (rows t) (pass_within p t k) i l

  marks_long : (k : ℕ) → length (marks p t k) ≡ rows t
  marks_long k = length_tabulate (rows t) 0 (pass_within p t k)

  unmarked_left : (k i : ℕ) → i < rows t → unmarked (marks p t k) i ≡ still_left p t k i
  unmarked_left k i l = ap (λ x. eqb x 0) (mark k i l) ∙ pass_left p t a i l k

  -- a row that is left lacks what holds it up just where it lacks a support
  holder_lacks : (f : ℕ → Bool) (i : ℕ) → i < rows t → f i ≡ true → lacks_holder (holders_of p t) (rows t) f i ≡ lacks_among p t f i
  unfolding holders_of holder_of lacks_among
  holder_lacks f i l left = rw (row_tabulate (rows t) (holder_of p t) i l) (go (needs_support (kind_of t i)) (support_row p t i) refl)
    where
      go : (b : Bool) (x : Found) → support_row p t i ≡ x
          → not (ltb (cond b (on_found (λ j. j) 65535 x) i) (rows t) && f (cond b (on_found (λ j. j) 65535 x) i)) ≡ (b && not (on_found f false x))
      go true (At j) e = rw (lt-ltb j (rows t) (row_supports p t i j e).inside) refl
      go true Nothing e = rw (le-ltb 65535 (rows t) (omega (arith, a.few))) refl
      go false x e = rw (lt-ltb i (rows t) l, left) refl

  -- row i goes in the pass after k passes
  abbrev goes_after : ℕ → ℕ → Bool
  goes_after k i = goes (holders_of p t) (unmarked (marks p t k)) (marks p t k) i

  goes_left : (k i : ℕ) → i < rows t → goes_after k i ≡ (still_left p t k i && lacks_among p t (still_left p t k) i)
  goes_left k i l =
      ap₂ (λ b n. b && lacks_holder (holders_of p t) n (unmarked (marks p t k)) i) (unmarked_left k i l) (marks_long k) ∙ go (still_left p t k i) (unmarked_left k i l)
    where
      go : (b : Bool) → unmarked (marks p t k) i ≡ b → (b && lacks_holder (holders_of p t) (rows t) (unmarked (marks p t k)) i) ≡ (b && lacks_among p t (still_left p t k) i)
      go true e = holder_lacks (unmarked (marks p t k)) i l e ∙ lacks_same p t i (unmarked (marks p t k)) (still_left p t k) (unmarked_left k)
      go false e = refl

  -- ---- one pass more

  marked_more : (k : ℕ) → marked (holders_of p t) (marks p t k) (k + 1) ≡ marks p t (k + 1)
  unfolding marked still_left
  marked_more k =
      ap (λ n. tabulate n (λ i. cond (goes_after k i) (k + 1) (row (marks p t k) i))) (marks_long k)
      ∙ same_rule (rows t) _ (pass_within p t (k + 1))
      (λ i l. rw (goes_left k i l, mark k i l, pass_more p t a i l k) (go (still_left p t k i) (lacks_among p t (still_left p t k) i) (pass_within p t k i)))
    where
      go : (s b : Bool) (x : ℕ) → cond (s && b) (k + 1) x ≡ cond (s && not (s && not b)) (k + 1) x
      go true true x = refl
      go true false x = refl
      go false b x = refl

  -- ---- whether a row goes

  -- none goes after k passes where none of the rows left lacks a support, and only there
  none_goes : (k : ℕ) → issues_among p t (left p t k) ≡ [] → (i : ℕ) → i < rows t → goes_after k i ≡ false
  none_goes k none i l = goes_left k i l ∙ go (still_left p t k i) refl
    where
      every : EverySupported p t (still_left p t k)
      every = none-named p t a (still_left p t k) (rw (left_is p t a k) at none)

      go : (b : Bool) → still_left p t k i ≡ b → (b && lacks_among p t (still_left p t k) i) ≡ false
      go true s = lacks_none p t a (still_left p t k) i (every i l s)
      go false s = refl

  goes_none : (k : ℕ) → ((i : ℕ) → i < rows t → goes_after k i ≡ false) → issues_among p t (left p t k) ≡ []
  goes_none k none =
      rw (left_is p t a k)
      (named_none p t a (still_left p t k) (λ i l s n. support-of p t a (still_left p t k) i n (rw s at (sym (goes_left k i l) ∙ none i l))))

  any_none : (k : ℕ) → any_goes (holders_of p t) (marks p t k) ≡ false → (i : ℕ) → i < rows t → goes_after k i ≡ false
  unfolding any_goes
  any_none k e i l = not-true _ (all_at (λ i. not (goes_after k i)) (length (marks p t k)) (not_false _ e) i (rw (marks_long k) l))

  none_any : (k : ℕ) → issues_among p t (left p t k) ≡ [] → any_goes (holders_of p t) (marks p t k) ≡ false
  unfolding any_goes
  none_any k none = ap not (at_all (λ i. not (goes_after k i)) (length (marks p t k)) (λ i l. ap not (none_goes k none i (rw (marks_long k) at l))))

  marked_none : (k n : ℕ) → ((i : ℕ) → i < rows t → goes_after k i ≡ false) → marked (holders_of p t) (marks p t k) n ≡ marks p t k
  unfolding marked
  marked_none k n none =
      ap (λ m. tabulate m (λ i. cond (goes_after k i) n (row (marks p t k) i))) (marks_long k)
      ∙ same_rule (rows t) _ (pass_within p t k) (λ i l. rw (none i l) (mark k i l))

  -- ---- the loop

  pub passing_none : {c : Column} → c ≡ tabulate (rows t) (λ _. 0) → Passing p t 1 c
  unfolding pass_within first_from
  passing_none e = record { made = 0; number = refl; few = omega arith; is = e }

  module _ {pass : ℕ} {c : Column} (g : Passing p t pass c) where
    pub passing_long : length c ≡ rows t
    passing_long = rw g.is (length_tabulate (rows t) 0 (pass_within p t g.made))

    -- every mark is below the number of the next pass
    pub passing_low : (i : ℕ) → row c i < pass
    passing_low i =
        by_cases (dec_lt i (rows t)) (λ l. rw (g.is, g.number, mark g.made i l) (omega (arith, pass-within p t g.made i)))
        (λ n. let past : row c i ≡ 0 = get_or-eq_default c 0 (omega (arith, passing_long)) in omega (arith, g.number))

    -- where a row goes there is one more pass
    pub passing_more : any_goes (holders_of p t) c ≡ true → (g.made < passes_of p t) × Passing p t (pass + 1) (marked (holders_of p t) c pass)
    passing_more e =
        let on : g.made < passes_of p t = by_cases (dec_lt g.made (passes_of p t)) (λ l. l) λ n.
        let all : g.made ≡ passes_of p t = omega (arith, g.few) in
        absurd (true≢false (sym (rw g.is at e) ∙ none_any g.made (rw all (passes_until p t).none))) in
        (on, record { made = g.made + 1; number = ap (λ n. n + 1) g.number; few = omega arith; is = rw (g.is, g.number) (marked_more g.made) })

    -- and where none does the marks are those of all passes
    pub passing_all : any_goes (holders_of p t) c ≡ false → marked (holders_of p t) c pass ≡ pass_column p t
    passing_all e =
        let none = any_none g.made (rw g.is at e) in
        let all : passes_of p t ≡ g.made = by_cases (dec_lt g.made (passes_of p t)) (λ l. absurd ((passes_until p t).not_yet g.made l (goes_none g.made none))) (λ n. omega (arith, g.few)) in
        rw (column_marks p t, g.is, all) (marked_none g.made pass none)
