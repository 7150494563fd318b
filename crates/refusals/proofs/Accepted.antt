-- Laws of an accepted table: its rows are good and in order, its positions are all different, and the look-up finds each row.
-- Assumes nothing.
use mathlib.Core.Path.{◌≡◌, refl, ap, sym}
use mathlib.Core.Logic.{by_cases}
use mathlib.Core.Bool.{true, false, not}
use Prim.Native.Nat.{ℕ, zero, suc, ◌+◌, ◌-◌, ◌%◌, ◌<◌}
use native.Mathlib.Decide.{dec_lt, ℕ_discrete}
use native.Mathlib.Omega.{arith}
use lib.ListN.{length}
use lib.Dec.{eqb, leb, ltb}
use borrow.Author.Tests.{eqb-true, eq-eqb, ne_eqb, leb-true, le-leb, ltb-true, ltb-false, le-ltb, lt-ltb, not-false}
use Rattle.columns.specs.declared.Found.TheVariants.{At}
use Rattle.columns.specs.Column.{Bytes}
use Rattle.blocks.specs.Kind.{Comparator}
use Rattle.places.specs.declared.Pos.{Pos}
use Rattle.places.specs.Places.{before}
use Rattle.places.proofs.Order.{before_irrefl, before_trans, before_asym}
use Rattle.places.proofs.Steps.{InRange}
use Rattle.columns.proofs.Truth.{and_true}
use Rattle.world.specs.Rows.{rows, pos_of, kind_of}
use Rattle.world.specs.Find.{find, InOrder}
use Rattle.world.proofs.Finding.{find_first}
use Rattle.layout.specs.Good.{good_profile, good_row}
use Rattle.refusals.specs.Accepted.{Table}
use Rattle.refusals.specs.Check.{accepted, is_bad, is_misplaced, is_overdriven, check_rows, check_table, check_input, IsAccepted}
use Rattle.refusals.proofs.Passed.{passed_unless, unless_passes, passed_rows, rows_pass}
use Rattle.layout.proofs.Fields.{Place, good-field, good_range}

-- ---- an accepted table

-- every row is of one of the kinds that the profile has a byte for
abbrev pub OfKinds : ℕ → Bytes → Type 0
OfKinds kinds t = (i : ℕ) → i < rows t → kind_of t i < kinds

accepted_rows : (kinds : ℕ) (t : Bytes) → check_table kinds t ≡ accepted → Table t × OfKinds kinds t
unfolding check_table check_rows
accepted_rows kinds t h =
    let (a, g) = passed_unless 2 (eqb (length t % 32) 0) _ h in
    let (b, f) = passed_unless 3 (leb (rows t) 1024) _ g in
    let (good, e) = passed_rows 4 0 (is_bad kinds t) (rows t) _ f in
    let (ordered, d) = passed_rows 5 1 (is_misplaced t) (rows t - 1) _ e in
    let (low, _) = passed_rows 10 0 (is_overdriven t) (rows t) _ d in
    let whole : length t % 32 ≡ 0 = eqb-true _ _ a in
    let both : (i : ℕ) → i < rows t → (good_row t i ≡ true) × (ltb (kind_of t i) kinds ≡ true) = λ i l. and_true _ _ (not-false _ (good i l)) in (
      record {
        whole = omega arith;
        few = leb-true _ _ b;
        good = λ i l. (both i l).0;
        ordered = λ i l. not-false _ (ordered i (omega arith));
        low = λ i l k. ltb-false _ _ (rw k at (low i l));
      },
      λ i l. ltb-true _ _ (both i l).1,
    )

pub accepted_table : (kinds : ℕ) (t : Bytes) → check_table kinds t ≡ accepted → Table t
accepted_table kinds t h = (accepted_rows kinds t h).0

pub accepted_of_kinds : (kinds : ℕ) (t : Bytes) → check_table kinds t ≡ accepted → OfKinds kinds t
accepted_of_kinds kinds t h = (accepted_rows kinds t h).1

-- no row of it is overdriven
pub not_driven : (t : Bytes) → Table t → (i : ℕ) → i < rows t → is_overdriven t i ≡ false
not_driven t a i l =
    by_cases (ℕ_discrete (kind_of t i) Comparator) (λ k. rw (k, le-ltb _ _ (a.low i l k))) (λ n. rw (ne_eqb (kind_of t i) Comparator n))

-- and a table that is so is accepted
pub table_accepted : (kinds : ℕ) (t : Bytes) → Table t → OfKinds kinds t → check_table kinds t ≡ accepted
unfolding check_table check_rows
table_accepted kinds t a k =
    unless_passes 2 (eqb (length t % 32) 0) _ (eq-eqb (length t % 32) 0 (omega (arith, a.whole)))
    (unless_passes 3 (leb (rows t) 1024) _ (le-leb _ 1024 a.few)
    (rows_pass 4 0 (is_bad kinds t) (rows t) _ (λ i l. rw (a.good i l, lt-ltb _ kinds (k i l)))
    (rows_pass 5 1 (is_misplaced t) (rows t - 1) _ (λ i l. ap not (a.ordered i (omega arith)))
    (rows_pass 10 0 (is_overdriven t) (rows t) accepted (not_driven t a) refl))))

-- of a call with the profile
pub accepted_kinds : (p t : Bytes) → check_input p t ≡ accepted → OfKinds (length p) t
unfolding check_input
accepted_kinds p t h = accepted_of_kinds (length p) t (passed_unless 1 (good_profile p) _ h).1

pub accepted_input : (p t : Bytes) → check_input p t ≡ accepted → (good_profile p ≡ true) × Table t
unfolding check_input
accepted_input p t h = let (a, b) = passed_unless 1 (good_profile p) _ h in (a, accepted_table (length p) t b)

pub input_accepted : (p t : Bytes) → good_profile p ≡ true → Table t → OfKinds (length p) t → IsAccepted p t
unfolding check_input
input_accepted p t g a k = rw (g, table_accepted (length p) t a k)

module _ (t : Bytes) (a : Table t) where
  in_order : (i k : ℕ) → i + suc k < rows t → before (pos_of t i) (pos_of t (i + suc k)) ≡ true
  in_order i zero h = a.ordered i h
  in_order i (suc k) h =
      let next : i + suc k + 1 ≡ i + suc (suc k) = omega arith in
      before_trans (pos_of t i) (pos_of t (i + suc k)) (pos_of t (i + suc (suc k)))
      (in_order i k (omega arith))
      (rw next at (a.ordered (i + suc k) (omega arith)))

  -- "ordered by x, then y, then z": every row comes before every later row
  pub later_after : (i j : ℕ) → i < j → j < rows t → before (pos_of t i) (pos_of t j) ≡ true
  later_after i j g h = let e : i + suc (j - suc i) ≡ j = omega arith in rw e at (in_order i (j - suc i) (omega arith))

  earlier_differs : (i j : ℕ) → i < j → j < rows t → pos_of t i ≡ pos_of t j → ⊥
  earlier_differs i j g h e = before_irrefl (pos_of t j) (rw e at (later_after i j g h))

  -- "all positions different"
  pub different : (i j : ℕ) → i < rows t → j < rows t → pos_of t i ≡ pos_of t j → i ≡ j
  different i j g h e =
      by_cases (dec_lt i j) (λ l. absurd (earlier_differs i j l h e))
      (λ m. by_cases (dec_lt j i) (λ l. absurd (earlier_differs j i l g (sym e))) (λ n. omega arith))

  -- its rows are in order
  pub rows_in_order : InOrder t
  rows_in_order = record { not_before = λ i h. before_asym (pos_of t i) (pos_of t (i + 1)) (a.ordered i h) }

  -- the look-up finds row i at row i's position
  pub find_own : (i : ℕ) → i < rows t → find t (pos_of t i) ≡ At i
  find_own i h = find_first t (pos_of t i) i h refl (λ j l. later_after j i l h)

  -- and at a position where row i stands
  pub find-at : (q : Pos) (i : ℕ) → i < rows t → pos_of t i ≡ q → find t q ≡ At i
  find-at q i h e = rw e at (find_own i h)

  -- every position is in range
  pub in-range : (i : ℕ) → i < rows t → InRange (pos_of t i)
  in-range i h = good_range (pos_of t i) (good-field t i (a.good i h) Place)
