-- What is kept, in the words of document 02, Change 7: of every accepted table.
-- Assumes nothing.
use mathlib.Core.Path.{◌≡◌, refl, ap, sym, ◌∙◌}
use mathlib.Core.Logic.{⊎_elim}
use mathlib.Core.Bool.{Bool, true, false, ◌||◌, true≢false, or-true}
use mathlib.Core.List.{List, [], ◌∷◌}
use Prim.Native.Nat.{ℕ, zero, suc, ◌≤◌, ◌<◌}
use native.Mathlib.Nat.{zero-add}
use native.Mathlib.Omega.{arith}
use lib.ListN.{length}
use lib.Dec.{eqb}
use borrow.Author.Tests.{eqb-true, eq-eqb}
use Rattle.columns.specs.Column.{Bytes, row, tabulate}
use Rattle.columns.specs.First.{indices_from, first_from}
use Rattle.columns.proofs.Columns.{row_tabulate, same_rule}
use Rattle.columns.proofs.Truth.{or_true as one-true}
use Rattle.columns.proofs.Indices.{indices_same}
use Rattle.blocks.specs.Kind.{one_of}
use Rattle.world.specs.Rows.{rows, kind_of}
use Rattle.refusals.specs.Check.{IsAccepted}
use Rattle.refusals.specs.Accepted.{Table}
use Rattle.refusals.proofs.Accepted.{accepted_input}
use Rattle.supports.specs.Supports.{needs_support, support_issues}
use Rattle.subtables.specs.Subtable.{table_of}
use Rattle.subtables.proofs.Rows.{indices_numbers, table_count, table_all}
use Rattle.subtables.proofs.Tables.{rows_accepted}
use Rattle.passes.specs.Passes.{issues_among, left}
use Rattle.passes.proofs.Laws.{row_one, first_named}
use Rattle.clearing.specs.Kept.{Goes, passes_of, kept_rows, kept_table, pass_of, pass_column}
use Rattle.clearing.specs.Largest.{HeldUpBy, HasSupport, EverySupported, Largest}
use Rattle.clearing.proofs.Steps.{still_left, pass_within}
use Rattle.clearing.proofs.Left.{left_is, left_test}
use Rattle.clearing.proofs.Supported.{none-named, every_left}
use Rattle.clearing.proofs.Going.{passes_until, passes_are, passes_few, goes_within, goes-after, pass_left, pass_goes, goes_pass}

-- what is kept, by the number of passes
kept_after : (p t : Bytes) (k : ℕ) → passes_of p t ≡ k → kept_table p t ≡ table_of t (left p t k)
unfolding kept_table kept_rows
kept_after p t k e = rw e refl

-- no more rows are kept than there are
pub kept_few : (p t : Bytes) → length (kept_rows p t) ≤ rows t
unfolding kept_rows
kept_few p t = omega (arith, passes_few p t)

-- without a pass no row goes
pass_none : (p t : Bytes) → passes_of p t ≡ 0 → (i : ℕ) → pass_of p t i ≡ 0
unfolding pass_of first_from
pass_none p t e i = rw e refl

module _ (p t : Bytes) (h : IsAccepted p t) where
  a : Table t
  a = (accepted_input p t h).1

  -- ---- the tables on the way

  -- What is left after any number of passes is itself an accepted table,
  pub left_accepted : (k : ℕ) → IsAccepted p (table_of t (left p t k))
  left_accepted k = rw (left_is p t a k) (rows_accepted p t (still_left p t k) h)

  -- and before the first it is the table.
  pub left_all : table_of t (left p t 0) ≡ t
  unfolding left
  left_all = table_all t a.whole

  -- What is kept is accepted,
  pub kept_accepted : IsAccepted p (kept_table p t)
  unfolding kept_table kept_rows
  kept_accepted = left_accepted (passes_of p t)

  -- has as many rows as are kept,
  pub kept_count : rows (kept_table p t) ≡ length (kept_rows p t)
  unfolding kept_table kept_rows
  kept_count = rw (left_is p t a (passes_of p t)) (table_count t _ (indices_numbers t (still_left p t (passes_of p t))))

  -- and the support list of it names none.
  pub kept_none : support_issues p (kept_table p t) ≡ []
  unfolding kept_table kept_rows
  kept_none = (passes_until p t).none

  -- ---- which rows are kept

  kept_is : kept_rows p t ≡ indices_from (still_left p t (passes_of p t)) (rows t) 0
  unfolding kept_rows
  kept_is = left_is p t a (passes_of p t)

  kept_test : (i : ℕ) → i < rows t → one_of (kept_rows p t) i ≡ still_left p t (passes_of p t) i
  unfolding kept_rows
  kept_test i l = left_test p t a (passes_of p t) i l

  same_every : (f g : ℕ → Bool) → ((i : ℕ) → i < rows t → f i ≡ g i) → EverySupported p t f → EverySupported p t g
  same_every f g same every i l s n =
      let its = every i l (same i l ∙ s) n in
      record { support = its.support; among = sym (same its.support its.holds.inside) ∙ its.among; holds = its.holds }

  -- "What is kept is the largest set of rows in which every row that needs support has it": it is such a set, and every such set lies within it.
  pub kept_largest : Largest p t (one_of (kept_rows p t))
  kept_largest =
      record {
        every =
            same_every (still_left p t (passes_of p t)) (one_of (kept_rows p t)) (λ i l. sym (kept_test i l))
            (none-named p t a (still_left p t (passes_of p t)) (rw (left_is p t a (passes_of p t)) at (passes_until p t).none));
        largest = λ other every i l s. kept_test i l ∙ every_left p t a other every (passes_of p t) i l s;
      }

  -- No other set is: each that is the largest has the same rows.
  pub only_largest : (set : ℕ → Bool) → Largest p t set → (i : ℕ) → i < rows t → set i ≡ one_of (kept_rows p t) i
  only_largest set most i l = go (set i) refl (one_of (kept_rows p t) i) refl
    where
      go : (x : Bool) → set i ≡ x → (y : Bool) → one_of (kept_rows p t) i ≡ y → x ≡ y
      go true e true f = refl
      go false e false f = refl
      go true e false f = absurd (true≢false (sym (kept_largest.largest set most.every i l e) ∙ f))
      go false e true f = absurd (true≢false (sym (most.largest (one_of (kept_rows p t)) kept_largest.every i l f) ∙ e))

  -- ---- the pass in which a row went

  entry : (i : ℕ) → i < rows t → row (pass_column p t) i ≡ pass_within p t (passes_of p t) i
  unfolding pass_column pass_of pass_within
  entry i l = row_tabulate (rows t) (pass_of p t) i l

  module _ (i : ℕ) (l : i < rows t) where
    -- It is 0 where the row is kept, and only there.
    pub pass_kept : eqb (row (pass_column p t) i) 0 ≡ one_of (kept_rows p t) i
    pass_kept = rw (entry i l) (pass_left p t a i l (passes_of p t)) ∙ sym (kept_test i l)

    -- It is "the pass from 1 in which it went", and where the row goes in a pass it is that one.
    pub pass_went : (k : ℕ) → row (pass_column p t) i ≡ suc k → Goes p t k i
    pass_went k e = pass_goes p t a i l (passes_of p t) k (sym (entry i l) ∙ e)

    pub went_pass : (k : ℕ) → Goes p t k i → row (pass_column p t) i ≡ suc k
    went_pass k g = entry i l ∙ goes_pass p t a i l (passes_of p t) k (goes_within p t k i g) g

    -- "The passes are bounded by the row count"; and "in 16 bits" there is room for them.
    pub pass_bounded : (row (pass_column p t) i ≤ rows t) × (row (pass_column p t) i < 65536)
    pass_bounded = let few = bounded (row (pass_column p t) i) refl in (few, omega (arith, few, a.few))
      where
        bounded : (x : ℕ) → row (pass_column p t) i ≡ x → x ≤ rows t
        bounded zero e = omega arith
        bounded (suc k) e = omega (arith, goes_within p t k i (pass_went k e), passes_few p t)

  -- A row that goes in a later pass than the first was held up by one that went in the pass before.
  pub went_after : (i k : ℕ) → i < rows t → row (pass_column p t) i ≡ suc (suc k) → (j : ℕ) × HeldUpBy p t i j × (row (pass_column p t) j ≡ suc k)
  went_after i k l e =
      let (j, held, goes) = goes-after p t a k i (pass_went i l (suc k) e) in
      (j, held, went_pass j held.inside k goes)

  -- The kept rows are those whose entry is 0, in order.
  pub kept-rows : kept_rows p t ≡ indices_from (λ i. eqb (row (pass_column p t) i) 0) (rows t) 0
  kept-rows =
      kept_is ∙ indices_same (still_left p t (passes_of p t)) (λ i. eqb (row (pass_column p t) i) 0) (rows t) 0
      (λ i _ m. let l : i < rows t = rw zero-add at m in sym (rw (entry i l) (pass_left p t a i l (passes_of p t))))

  -- ---- rows that are kept

  -- row i is kept, and has no pass in which it went
  abbrev pub IsKept : ℕ → Type 0
  IsKept i = (one_of (kept_rows p t) i ≡ true) × (row (pass_column p t) i ≡ 0)

  -- A row is kept that is in a set in which every row that needs support has it,
  pub set_kept : (set : ℕ → Bool) → EverySupported p t set → (i : ℕ) → i < rows t → set i ≡ true → IsKept i
  set_kept set every i l s = let kept = kept_largest.largest set every i l s in (kept, eqb-true _ 0 (pass_kept i l ∙ kept))

  -- one that needs no support,
  pub needless_kept : (i : ℕ) → i < rows t → needs_support (kind_of t i) ≡ false → IsKept i
  needless_kept i l n = set_kept (λ k. eqb k i) (λ k _ e m. absurd (true≢false (sym m ∙ rw (eqb-true k i e) n))) i l (eq-eqb i i refl)

  -- one whose support is itself,
  pub own_kept : (i : ℕ) → HeldUpBy p t i i → IsKept i
  own_kept i h = set_kept (λ k. eqb k i) (λ k _ e _. rw (eqb-true k i e) own) i h.inside (eq-eqb i i refl)
    where
      own : HasSupport p t (λ k. eqb k i) i
      own = record { support = i; among = eq-eqb i i refl; holds = h }

  -- and "two rows that hold each other up are kept".
  pub both_kept : (i j : ℕ) → HeldUpBy p t i j → HeldUpBy p t j i → IsKept i × IsKept j
  both_kept i j s r = (set_kept pair held i r.inside first, set_kept pair held j s.inside second)
    where
      pair : ℕ → Bool
      pair k = eqb k i || eqb k j

      first : pair i ≡ true
      first = rw (eq-eqb i i refl) refl

      second : pair j ≡ true
      second = rw (eq-eqb j j refl) (or-true (eqb j i))

      held : EverySupported p t pair
      held k _ e _ =
          ⊎_elim (λ f. rw (eqb-true k i f) (record { support = j; among = second; holds = s }))
          (λ f. rw (eqb-true k j f) (record { support = i; among = first; holds = r }))
          (one-true (eqb k i) (eqb k j) e)

  -- ---- the passes

  -- In each of them a row goes, so that the greatest entry says how many there are.
  pub some_goes : (k : ℕ) → k < passes_of p t → (i : ℕ) × Goes p t k i
  some_goes k l = go (issues_among p t (left p t k)) refl
    where
      go : (names : List ℕ) → issues_among p t (left p t k) ≡ names → (i : ℕ) × Goes p t k i
      go [] e = absurd ((passes_until p t).not_yet k l e)
      go (at ∷ rest) e =
          let some : 0 < length (issues_among p t (left p t k)) = rw e (omega arith) in
          let named : row (issues_among p t (left p t k)) 0 ≡ at = ap (λ xs. row xs 0) e in (
            row (left p t k) at,
            record {
              at = at;
              inside = rw named at (first_named p t k some);
              is = refl;
              named = rw named at (row_one (issues_among p t (left p t k)) 0 some);
            },
          )

-- ---- clearing what is kept removes nothing

module _ (p t : Bytes) (h : IsAccepted p t) where
  again_all : table_of (kept_table p t) (left p (kept_table p t) 0) ≡ kept_table p t
  again_all = left_all p (kept_table p t) (kept_accepted p t h)

  -- it takes no pass,
  pub again_none : passes_of p (kept_table p t) ≡ 0
  again_none = passes_are p (kept_table p t) 0 (record { none = rw again_all (kept_none p t h); not_yet = λ j l. absurd (omega arith) })

  -- and keeps every row:
  pub again_kept : kept_table p (kept_table p t) ≡ kept_table p t
  again_kept = kept_after p (kept_table p t) 0 again_none ∙ again_all

  -- none has a pass in which it went.
  pub again_column : pass_column p (kept_table p t) ≡ tabulate (rows (kept_table p t)) (λ i. 0)
  unfolding pass_column
  again_column = same_rule (rows (kept_table p t)) (pass_of p (kept_table p t)) (λ i. 0) (λ i _. pass_none p (kept_table p t) again_none i)
