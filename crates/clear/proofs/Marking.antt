-- The loop of one pass: what holds of the marks after i rows.
-- Assumes nothing.
use mathlib.Core.Path.{◌≡◌, refl, ap, ap₂, sym, ◌∙◌}
use mathlib.Core.Logic.{by_cases}
use mathlib.Core.Bool.{Bool, true, false, cond, not, ◌&&◌, and-true, and-false, or-true}
use Prim.Native.Nat.{ℕ, ◌+◌, ◌≤◌, ◌<◌}
use native.Mathlib.Numerals.{add-one}
use native.Mathlib.Decide.{dec_lt}
use native.Mathlib.Omega.{arith}
use lib.ListN.{length, set, length-set}
use lib.Seq.{get_or-set_same, get_or-set_other}
use lib.Dec.{eqb}
use borrow.Author.Count.{below_more}
use borrow.Author.Tests.{eq-eqb, ne_eqb}
use Rattle.columns.specs.Column.{Column, row}
use Rattle.columns.specs.First.{all_below}
use Rattle.columns.proofs.Columns.{is_tabulate}
use Rattle.columns.proofs.Truth.{and_true as both_true, or_none}
use Rattle.clear.specs.Marks.{unmarked, left_at, lacks_holder, goes, marked, any_goes}

-- the first i rows that go in pass n have its mark, and nothing else has changed
pub record Marking (holders old : Column) (n i : ℕ) (now : Column) (any : Bool) : Type 0 where
  pub long : length now ≡ length old
  pub passed : (k : ℕ) → k < i → row now k ≡ cond (goes holders (unmarked old) old k) n (row old k)
  pub rest : (k : ℕ) → i ≤ k → row now k ≡ row old k
  pub found : any ≡ not (all_below (λ k. not (goes holders (unmarked old) old k)) i)

module _ {holders old : Column} {n i : ℕ} {now : Column} {any : Bool} (m : Marking holders old n i now any) where
  -- the rows that were left when the pass began are those without a mark then
  left_then : ((k : ℕ) → row old k < n) → (j : ℕ) → left_at now n j ≡ unmarked old j
  left_then low j = by_cases (dec_lt j i) (λ l. went (goes holders (unmarked old) old j) refl (m.passed j l)) (λ l. same (m.rest j (omega arith)))
    where
      same : row now j ≡ row old j → left_at now n j ≡ unmarked old j
      same e = rw (e, ne_eqb (row old j) n (λ f. omega (arith, low j))) (or_none (unmarked old j))

      went : (b : Bool) → goes holders (unmarked old) old j ≡ b → row now j ≡ cond b n (row old j) → left_at now n j ≡ unmarked old j
      went false g e = same e
      went true g e = rw (e, eq-eqb n n refl, (both_true (unmarked old j) _ g).0) (or-true (eqb n 0))

  -- so that row i goes just where it went from the old marks
  pub goes_then : ((k : ℕ) → row old k < n) → goes holders (left_at now n) now i ≡ goes holders (unmarked old) old i
  goes_then low =
      ap₂ (λ x k. eqb x 0 && lacks_holder holders k (left_at now n) i) (m.rest i (omega arith)) m.long
      ∙ ap (λ f. unmarked old i && lacks_holder holders (length old) f i) (λ x j. left_then low j x)

  pub marking_pass : goes holders (unmarked old) old i ≡ false → Marking holders old n (i + 1) now any
  marking_pass e =
      record {
        long = m.long;
        passed = below_more (λ k. row now k ≡ cond (goes holders (unmarked old) old k) n (row old k)) i m.passed (rw e (m.rest i (omega arith)));
        rest = λ k l. m.rest k (omega arith);
        found = m.found ∙ rw (add-one i, e) (ap not (sym (and-true (all_below (λ k. not (goes holders (unmarked old) old k)) i))));
      }

  pub marking_more : i < length old → goes holders (unmarked old) old i ≡ true → Marking holders old n (i + 1) (set now i n) true
  marking_more l e =
      record {
        long = length-set now i n ∙ m.long;
        passed =
            below_more (λ k. row (set now i n) k ≡ cond (goes holders (unmarked old) old k) n (row old k)) i
            (λ k h. get_or-set_other now i k n 0 (λ q. omega arith) ∙ m.passed k h)
            (rw e (get_or-set_same now i n 0 (rw m.long l)));
        rest = λ k h. get_or-set_other now i k n 0 (λ q. omega arith) ∙ m.rest k (omega arith);
        found = rw (add-one i, e) (ap not (sym (and-false (all_below (λ k. not (goes holders (unmarked old) old k)) i))));
      }

  pub marking_all : length old ≤ i → now ≡ marked holders old n
  unfolding marked
  marking_all h = is_tabulate now (length old) _ m.long (λ k l. m.passed k (omega arith))

  pub marking_any : i ≡ length old → any ≡ any_goes holders old
  unfolding any_goes
  marking_any e = rw e at m.found
