-- The passes come to an end, since each that removes anything leaves fewer rows; and the search that finds how many there are.
-- Proved laws: nobody has to believe them, or read them to know what is promised. Assumes nothing.
use Rattle.std.specs.Prelude.{◌≡◌, Bool, not, ◌||◌}
use Rattle.std.proofs.Math.Path.{refl}
use Rattle.std.proofs.Common.{ap, sym, ◌∙◌, zero-add, add-zero, not-suc-le-zero, eqb-true, eq-eqb}
use Rattle.std.proofs.Math.Bool.{true, false, true≢false}
use mathlib.Core.List.{List, [], ◌∷◌}
use Prim.Native.Nat.{ℕ, zero, suc, ◌+◌, ◌≤◌, ◌<◌, zero-le}
use native.Mathlib.Decide.{dec_lt}
use native.Mathlib.Omega.{arith}
use mathlib.Core.Logic.{by_cases}
use Rattle.std.proofs.Math.ListN.{length}
use Rattle.std.proofs.Math.Dec.{eqb}
use Rattle.columns.specs.declared.Found.{Found}
use Rattle.columns.specs.declared.Found.TheVariants.{At, Nothing}
use Rattle.columns.specs.Column.{Bytes, Column, row}
use Rattle.columns.specs.First.{keep_if, first_from, on_found}
use Rattle.columns.proofs.Members.{none_in}
use Rattle.columns.proofs.First.{first_at, first-none}
use Rattle.columns.proofs.Indices.{length_indices, index_kept}
use Rattle.blocks.specs.Kind.{one_of}
use Rattle.world.specs.Rows.{rows}
use Rattle.supports.specs.Supports.{lacks_support, support_issues}
use Rattle.subtables.specs.Subtable.{table_of}
use Rattle.subtables.proofs.Rows.{table_short}
use Rattle.passes.specs.Passes.{unnamed_from, issues_among, left, Until}
use Rattle.passes.proofs.Short.{unnamed_short}
use Rattle.passes.specs.Search.{none_named, first_none}

-- ---- one pass

-- the k-th number of a list is one of the list
pub row_one : (xs : Column) (k : ℕ) → k < length xs → one_of xs (row xs k) ≡ true
row_one [] k l = absurd (not-suc-le-zero l)
row_one (x ∷ xs) zero l = rw (eq-eqb x x refl)
row_one (x ∷ xs) (suc k) l = go (eqb (row xs k) x) (row_one xs k (omega arith))
  where
    go : (b : Bool) → one_of xs (row xs k) ≡ true → (b || one_of xs (row xs k)) ≡ true
    go true h = refl
    go false h = h

module _ (names : List ℕ) where
  -- fewer are left, where an index is named
  unnamed_fewer : (k : ℕ) (xs : List ℕ) (j : ℕ) → j < length xs → one_of names (k + j) ≡ true → length (unnamed_from names k xs) < length xs
  unfolding unnamed_from
  unnamed_fewer k [] j l h = absurd (not-suc-le-zero l)
  unnamed_fewer k (x ∷ xs) zero l h = rw (rw (add-zero k) at h) (omega (arith, unnamed_short names (k + 1) xs))
  unnamed_fewer k (x ∷ xs) (suc j) l h =
      let next : k + 1 + j ≡ k + suc j = omega arith in
      go (not (one_of names k)) (unnamed_fewer (k + 1) xs j (omega arith) (rw next h))
    where
      go : (b : Bool) → length (unnamed_from names (k + 1) xs) < length xs → length (keep_if b x (unnamed_from names (k + 1) xs)) < suc (length xs)
      go true h = omega arith
      go false h = omega arith

module _ (p t : Bytes) where
  -- the first that is named is one of the rows left
  pub first_named : (k : ℕ) → 0 < length (issues_among p t (left p t k)) → row (issues_among p t (left p t k)) 0 < length (left p t k)
  unfolding support_issues
  first_named k some =
      let table = table_of t (left p t k) in
      omega (arith, (index_kept (lacks_support p table) (rows table) 0 0 some).below, table_short t (left p t k))

  pass_fewer : (k : ℕ) → none_named p t k ≡ false → length (left p t (suc k)) < length (left p t k)
  unfolding left
  pass_fewer k h =
      let names = issues_among p t (left p t k) in
      let some : 0 < length names = positive (length names) h in
      unnamed_fewer names 0 (left p t k) (row names 0) (first_named k some) (rw (zero-add (row names 0)) (row_one names 0 some))
    where
      positive : (n : ℕ) → eqb n 0 ≡ false → 0 < n
      positive zero e = absurd (true≢false e)
      positive (suc n) e = omega arith

  all_few : length (left p t 0) ≤ rows t
  unfolding left
  all_few = length_indices (λ i. true) (rows t) 0

  -- after k passes that each removed a row, at least k are gone
  pub left_few : (k : ℕ) → ((j : ℕ) → j < k → none_named p t j ≡ false) → length (left p t k) + k ≤ rows t
  left_few zero h = omega (arith, all_few)
  left_few (suc k) h = omega (arith, left_few k (λ j l. h j (omega arith)), pass_fewer k (h k (omega arith)))

  pub first_none_until : Until p t (first_none p t)
  unfolding first_none
  first_none_until = go (first_from (none_named p t) (rows t + 1) 0) refl
    where
      go : (x : Found) → first_from (none_named p t) (rows t + 1) 0 ≡ x → Until p t (on_found (λ k. k) 0 x)
      go Nothing e = absurd (omega (arith, left_few (rows t + 1) (λ j l. first-none (none_named p t) (rows t + 1) 0 e j zero-le (omega arith))))
      go (At k) e =
          let first = first_at (none_named p t) (rows t + 1) 0 k e in
          record {
            none = none_in (issues_among p t (left p t k)) (eqb-true _ 0 first.holds);
            not_yet = λ j l n. true≢false (sym (eq-eqb _ 0 (ap length n)) ∙ first.earlier j zero-le l);
          }

  -- no two numbers of passes are such
  pub until_one : (j k : ℕ) → Until p t j → Until p t k → j ≡ k
  until_one j k u v =
      by_cases (dec_lt j k) (λ l. absurd (v.not_yet j l u.none))
      (λ m. by_cases (dec_lt k j) (λ l. absurd (u.not_yet k l v.none)) (λ n. omega arith))
