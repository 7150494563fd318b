-- Laws of the searches of a column that rises, by halves and by a walk.
-- Assumes nothing.
use mathlib.Core.Path.{◌≡◌, sym, ◌∙◌}
use mathlib.Core.Bool.{true, false}
use Prim.Native.Nat.{ℕ, zero, suc, ◌+◌, ◌-◌, ◌≤◌, ◌<◌}
use native.Mathlib.Omega.{arith}
use native.Mathlib.Nat.{not-suc-le-zero}
use native.Mathlib.Decide.{dec_lt}
use mathlib.Core.Logic.{by_cases}
use lib.Dec.{ltb}
use Rattle.std.specs.List.Sorted.{IsNonDecreasingBy, IsPartitionPoint}
use Rattle.std.proofs.lemmas.List.Sorted.{IsNonDecreasingBy-from_default}
use lib.ListN.{length, set}
use borrow.Author.Count.{below_more}
use borrow.Author.Tests.{lt-ltb, le-ltb, ltb-true, ltb-false, eq-eqb, ne_eqb}
use Rattle.columns.specs.Column.{Column, row}
use Rattle.columns.proofs.First.{at_first, none_first}
use Rattle.columns.proofs.Columns.{Filled, filled_none, filled_more, filled_all}
use Rattle.circuit.specs.Circuit.{no_row}
use Rattle.adjacency.specs.Search.{Rising, is_past, if_is, row_at, stepped, walked, Passed, Reached}

-- ---- where a search ends

module _ {s : Column} {want p : ℕ} (h : Reached s want p) where
  before_it : (k : ℕ) → k < p → is_past s want k ≡ false
  before_it k l = rw (lt-ltb (row s k) want (h.passed.earlier k l))

  it : p < length s → row_at s want ≡ if_is s want p
  unfolding row_at
  it l =
      rw (at_first (is_past s want) (length s) 0 p
      (record { from = omega arith; inside = omega arith; holds = rw (le-ltb (row s p) want (h.past l)); earlier = λ k _ m. before_it k m }))

  pub reached_is : p < length s → row s p ≡ want → p ≡ row_at s want
  reached_is l e = sym (it l ∙ rw (eq-eqb (row s p) want e))

  pub reached_other : p < length s → ¬ (row s p ≡ want) → no_row ≡ row_at s want
  reached_other l n = sym (it l ∙ rw (ne_eqb (row s p) want n))

  pub reached_end : length s ≤ p → no_row ≡ row_at s want
  unfolding row_at
  reached_end l = rw (none_first (is_past s want) (length s) 0 (λ k _ m. before_it k (omega arith)))

-- one row more is below the number
pub passed_more : {s : Column} {want p : ℕ} → Passed s want p → p < length s → row s p < want → Passed s want (p + 1)
passed_more {s} {want} {p} h l m = record { within = omega arith; earlier = below_more (λ k. row s k < want) p h.earlier m }

-- ---- every row is below the later ones

module _ {s : Column} (r : Rising s) where
  from : (i d : ℕ) → i + suc d < length s → row s i < row s (i + suc d)
  from i zero h = r.rises i h
  from i (suc d) h =
      let next : i + suc d + 1 ≡ i + suc (suc d) = omega arith in
      omega (arith, from i d (omega arith), rw next at (r.rises (i + suc d) (omega arith)))

  pub rises_on : (i k : ℕ) → i < k → k < length s → row s i < row s k
  rises_on i k l h = let e : i + suc (k - suc i) ≡ k = omega arith in rw e at (from i (k - suc i) (omega arith))

-- ---- a search by halves, which is the library's

pub ascending : {s : Column} → Rising s → IsNonDecreasingBy (λ x. x) s
ascending {s} r = IsNonDecreasingBy-from_default (λ x. x) s 0 (λ i j l h. by_cases (dec_lt i j) (λ m. omega (arith, rises_on r i j m h)) (λ n. let e : i ≡ j = omega arith in rw e (omega arith)))

-- where it ends, it has reached the number
pub point_reached : (s : Column) (want p : ℕ) → p ≤ length s → IsPartitionPoint (λ y. ltb y want ≡ true) (λ y. ltb y want ≡ false) s p → Reached s want p
point_reached s want p inside h =
    record {
      passed = record { within = inside; earlier = λ k l. ltb-true (row s k) want (h.0 k 0 (omega arith) l) };
      past = λ l. ltb-false (row s p) want (h.1 p 0 (omega arith) l);
    }

pub none_passed : (s : Column) (want : ℕ) → Passed s want 0
none_passed s want = record { within = omega arith; earlier = λ k l. absurd (not-suc-le-zero l) }

-- ---- a walk: the rows at the step from the first i rows are found, and the search for the next is to go on at row p

pub record Walking (s : Column) (step i p : ℕ) (out : Column) : Type 0 where
  pub filled : Filled (λ k. row_at s (stepped s step k)) (length s) i out
  pub passed : i < length s → Passed s (stepped s step i) p

pub walking_none : {s : Column} {step : ℕ} {out : Column} → length out ≡ length s → Walking s step 0 0 out
walking_none {s} {step} e = record { filled = filled_none e; passed = λ _. none_passed s (stepped s step 0) }

module _ {s : Column} {step i p : ℕ} {out : Column} (h : Walking s step i p out) where
  pub walking_more : Rising s → i < length s → {q x : ℕ} → Reached s (stepped s step i) q → x ≡ row_at s (stepped s step i)
      → Walking s step (i + 1) q (set out i x)
  walking_more r l g e =
      record {
        filled = filled_more h.filled l e;
        passed = λ m. record { within = g.passed.within; earlier = λ k n. omega (arith, g.passed.earlier k n, r.rises i m) };
      }

  pub walking_all : length s ≤ i → out ≡ walked s step
  unfolding walked
  walking_all l = filled_all h.filled l
