-- Laws of what is left after some passes: the rows at which a test of the input's own rows holds.
-- Assumes nothing.
use Rattle.std.proofs.Common.{Option, Some, None}
use mathlib.Core.Path.{◌≡◌, refl, ap, sym, ◌∙◌}
use mathlib.Core.Bool.{Bool, true, false, not, ◌&&◌, and_comm}
use mathlib.Core.List.{List}
use Prim.Native.Nat.{ℕ, zero, suc, ◌<◌}
use native.Mathlib.Nat.{zero-add}
use native.Mathlib.Omega.{arith}
use lib.ListN.{length}
use borrow.Author.Tests.{not-true, not-false}
use Rattle.columns.specs.declared.Found.{Found}
use Rattle.columns.specs.declared.Found.TheVariants.{At, Nothing}
use Rattle.columns.specs.Column.{Bytes, row}
use Rattle.columns.specs.First.{indices_from, on_found}
use Rattle.columns.proofs.Truth.{and_true}
use Rattle.places.specs.declared.Pos.{Pos}
use Rattle.blocks.specs.Kind.{one_of}
use Rattle.world.specs.Rows.{rows, support_of}
use Rattle.world.specs.Find.{find, find_at}
use Rattle.world.proofs.Finding.{found_stands}
use Rattle.traits.specs.Traits.{traits}
use Rattle.refusals.specs.Accepted.{Table}
use Rattle.supports.specs.Supports.{is_supported, lacks_support}
use Rattle.supports.specs.Rows.{support_row}
use Rattle.supports.proofs.Rows.{on_support}
use Rattle.subtables.specs.Subtable.{table_of}
use Rattle.subtables.proofs.Rows.{Numbers, indices_numbers, table_count, table_byte, table_place}
use Rattle.subtables.proofs.Tables.{find_among}
use Rattle.passes.specs.Passes.{unnamed_from, issues_among, left}
use Rattle.clearing.specs.Kept.{is_left}
use Rattle.clearing.proofs.Steps.{lacks_among, still_left}
use Rattle.clearing.proofs.Named.{one_index, named, unnamed_indices}

-- ---- a support, among some rows

module _ (p t : Bytes) (a : Table t) (f : ℕ → Bool) where
  abbrev numbers : List ℕ
  numbers = indices_from f (rows t) 0

  abbrev some : Bytes
  some = table_of t numbers

  these : Numbers t numbers
  these = indices_numbers t f

  module _ (k : ℕ) (l : k < length numbers) where
    same_support : support_of some k ≡ support_of t (row numbers k)
    unfolding support_of
    same_support =
        let byte = table_byte t numbers these k l in
        rw (table_place t numbers these k l, byte 19 (omega arith), byte 20 (omega arith), byte 21 (omega arith), byte 22 (omega arith)) refl

    same_traits : traits p some k ≡ traits p t (row numbers k)
    unfolding traits
    same_traits = let byte = table_byte t numbers these k l in rw (byte 12 (omega arith), byte 28 (omega arith)) refl

  -- the traits of what is found are those of the input's row
  found_traits : (q : Option Pos) → on_found (λ j. (traits p some j).supports) false (find_at some q) ≡ on_found (λ j. (traits p t (row numbers j)).supports) false (find_at some q)
  found_traits None = refl
  found_traits (Some q) = go (find some q) refl
    where
      go : (x : Found) → find some q ≡ x → on_found (λ j. (traits p some j).supports) false x ≡ on_found (λ j. (traits p t (row numbers j)).supports) false x
      go Nothing e = refl
      go (At j) e = ap (λ r. r.supports) (same_traits j (rw (table_count t numbers these) at (found_stands some q j e).0))

  -- what is found among them is found in t
  among : (q : Option Pos) → on_found (λ j. (traits p t (row numbers j)).supports) false (find_at some q) ≡ on_found (λ j. f j && (traits p t j).supports) false (find_at t q)
  among None = refl
  among (Some q) = find_among t a f (λ j. (traits p t j).supports) q

  swapped : (x : Found) → on_found (λ j. f j && (traits p t j).supports) false x ≡ on_found (λ j. (traits p t j).supports && f j) false x
  swapped Nothing = refl
  swapped (At j) = and_comm (f j) (traits p t j).supports

  supported_among : (k : ℕ) → k < length numbers → is_supported p some k ≡ on_found f false (support_row p t (row numbers k))
  unfolding is_supported
  supported_among k l =
      rw (same_support k l)
      (found_traits (support_of t (row numbers k)) ∙ among (support_of t (row numbers k)) ∙ swapped (find_at t (support_of t (row numbers k))) ∙ sym (on_support p t (row numbers k) f))

  -- a row of the table that they make lacks a support where the input's row has none among them
  pub lacks-among : (k : ℕ) → k < length numbers → lacks_support p some k ≡ lacks_among p t f (row numbers k)
  unfolding lacks_support lacks_among
  lacks-among k l = rw (table_byte t numbers these k l 12 (omega arith), supported_among k l) refl

  -- and is named there by the support list of that table
  pub named_among : (k : ℕ) → k < length numbers → one_of (issues_among p t numbers) k ≡ lacks_among p t f (row numbers k)
  named_among k l = named p some k (rw (table_count t numbers these) l) ∙ lacks-among k l

  -- By one pass those that have one are left.
  pub pass_leaves : unnamed_from (issues_among p t numbers) 0 numbers ≡ indices_from (λ i. f i && not (lacks_among p t f i)) (rows t) 0
  pass_leaves =
      unnamed_indices (issues_among p t numbers) f (λ i. not (lacks_among p t f i)) 0 (rows t) 0
      (λ j l. rw (zero-add j) (ap not (named_among j l)))

-- ---- after k passes

module _ (p t : Bytes) (a : Table t) where
  -- the rows that are left are those at which the test holds,
  pub left_is : (k : ℕ) → left p t k ≡ indices_from (still_left p t k) (rows t) 0
  unfolding left still_left
  left_is zero = refl
  left_is (suc k) = rw (left_is k) (pass_leaves p t a (still_left p t k))

  pub left_test : (k i : ℕ) → i < rows t → is_left p t k i ≡ still_left p t k i
  left_test k i l = rw (left_is k) (one_index (still_left p t k) (rows t) i l)

module _ (p t : Bytes) (k i : ℕ) where
  -- by one pass more: a row that is left was left before, and did not lack a support,
  pub left_before : still_left p t (suc k) i ≡ true → (still_left p t k i ≡ true) × (lacks_among p t (still_left p t k) i ≡ false)
  unfolding still_left
  left_before h = let (before, held) = and_true (still_left p t k i) (not (lacks_among p t (still_left p t k) i)) h in (before, not-true _ held)

  -- and one that goes lacked one
  pub goes_lacking : still_left p t k i ≡ true → still_left p t (suc k) i ≡ false → lacks_among p t (still_left p t k) i ≡ true
  unfolding still_left
  goes_lacking before after = not-false _ (rw before at after)
