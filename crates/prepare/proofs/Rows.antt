-- Laws: the entries of a table's two columns. An entry of `near` is the row i where row i stands at that place, and only there.
-- Assumes nothing.
use Rattle.std.proofs.Common.{Option, Some, None}
use mathlib.Core.Path.{◌≡◌, refl, sym, ◌∙◌}
use mathlib.Core.Bool.{Bool, true, false, ◌&&◌, true≢false, and-true, and-false}
use mathlib.Core.Logic.{by_cases}
use Prim.Native.Nat.{ℕ, ◌≤◌, ◌<◌}
use native.Mathlib.Decide.{ℕ_discrete}
use native.Mathlib.Omega.{arith}
use lib.ListN.{length, get_or-eq_default}
use lib.Dec.{eqb}
use borrow.Author.Tests.{eqb-true, eq-eqb, ne_eqb, lt-ltb}
use Rattle.columns.specs.Column.{Bytes, Column, row}
use Rattle.columns.specs.First.{on_found}
use Rattle.columns.specs.declared.Found.{Found}
use Rattle.columns.specs.declared.Found.TheVariants.{At, Nothing}
use Rattle.columns.proofs.Columns.{length_tabulate, row_tabulate}
use Rattle.columns.proofs.Truth.{refuted}
use Rattle.places.specs.declared.Pos.{Pos}
use Rattle.places.specs.Places.{same_pos, is_at}
use Rattle.places.proofs.Order.{same_pos_true, same_pos_refl}
use Rattle.world.specs.Rows.{rows, pos_of}
use Rattle.world.specs.Find.{find, find_at}
use Rattle.world.proofs.Finding.{found_stands}
use Rattle.refusals.specs.Accepted.{Table}
use Rattle.refusals.proofs.Accepted.{find-at}
use Rattle.classes.specs.Towards.{places}
use Rattle.circuit.specs.Circuit.{no_row, Shaped, beside_in, sink_if}
use Rattle.adjacency.specs.Adjacency.{row_by, near_of}
use Rattle.adjacency.proofs.Beside.{near_at, near_long}
use Rattle.prepare.specs.Classes.{arm_bits, class_of, classes_of}
use Rattle.prepare.proofs.Decoded.{Decoded, decoded}

-- two tests that hold together are one
pub same_truth : {a b : Bool} → (a ≡ true → b ≡ true) → (b ≡ true → a ≡ true) → a ≡ b
same_truth {a = true} h g = sym (h refl)
same_truth {a = false} {b = b} h g = sym (refuted b (λ e. true≢false (sym (g e))))

-- the row found
abbrev pub or_no_row : Found → ℕ
or_no_row x = on_found (λ j. j) no_row x

-- the class of row i, and the row at place k by row j, in the table's columns
abbrev pub class_at : Bytes → Bytes → ℕ → ℕ
class_at p t i = row (classes_of p t) i

abbrev pub next_to : Bytes → Bytes → ℕ → ℕ → ℕ
next_to p t j k = beside_in (near_of t) (classes_of p t) j k

-- the row at place k by row j, whatever the classes of the rows are
pub beside_by : (t : Bytes) (class : Column) → length class ≡ rows t → (j k : ℕ) → j < rows t → k < places
    → beside_in (near_of t) class j k ≡ row_by t j k
unfolding beside_in
beside_by t class long j k h g = rw (long, lt-ltb j (rows t) h) (near_at t k j g h)

pub shaped_by : (t : Bytes) (class : Column) → Table t → length class ≡ rows t → Shaped (near_of t) class
shaped_by t class table long = record { few = rw long table.few; long = rw long (near_long t) }

module _ (p t : Bytes) where
  pub length_classes : length (classes_of p t) ≡ rows t
  unfolding classes_of
  length_classes = length_tabulate (rows t) 0 (class_of p t)

  pub class_past : (i : ℕ) → rows t ≤ i → class_at p t i ≡ 0
  class_past i h = get_or-eq_default (classes_of p t) 0 (rw length_classes h)

  pub beside_is : (j k : ℕ) → j < rows t → k < places → next_to p t j k ≡ row_by t j k
  beside_is = beside_by t (classes_of p t) length_classes

  pub class-at : Table t → (i : ℕ) → i < rows t → Decoded (arm_bits p t i) p t i (class_at p t i)
  unfolding classes_of
  class-at table i h = rw (row_tabulate (rows t) (class_of p t) i h) (decoded p t table i h)

module _ (t : Bytes) (table : Table t) (i : ℕ) (inside : i < rows t) where
  no-row : eqb no_row i ≡ false
  no-row = ne_eqb no_row i (omega (arith, table.few))

  found_row : (q : Pos) → eqb (or_no_row (find t q)) i ≡ same_pos q (pos_of t i)
  found_row q = same_truth (λ e. go (find t q) refl e) (λ e. rw (find-at t table q i inside (sym (same_pos_true q _ e)), eq-eqb i i refl))
    where
      go : (x : Found) → find t q ≡ x → eqb (or_no_row x) i ≡ true → same_pos q (pos_of t i) ≡ true
      go (At j) f e = rw (← eqb-true j i e, (found_stands t q j f).1) (same_pos_refl q)
      go Nothing f e = absurd (true≢false (sym e ∙ no-row))

  pub is_row : (x : Option Pos) → eqb (or_no_row (find_at t x)) i ≡ is_at x (pos_of t i)
  is_row (Some q) = found_row q
  is_row None = no-row

  -- the row that an edge leads to is i where it is the row i at the place, and has the edge
  pub is_sink : (test : ℕ → Bool) (x : ℕ) → eqb (sink_if (test x) x) i ≡ (eqb x i && test i)
  is_sink test x = by_cases (ℕ_discrete x i) (λ e. rw e (go (test i))) (λ n. rw (ne_eqb x i n) (gone n (test x)))
    where
      go : (b : Bool) → eqb (sink_if b i) i ≡ (eqb i i && b)
      go true = sym (and-true (eqb i i))
      go false = no-row ∙ sym (and-false (eqb i i))

      gone : ¬ (x ≡ i) → (b : Bool) → eqb (sink_if b x) i ≡ false
      gone n true = ne_eqb x i n
      gone n false = no-row
