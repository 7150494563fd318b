-- Laws of a row's support, and of the sets of rows in which every row that needs support has it: such a set is left by every pass.
-- Assumes nothing.
use Rattle.std.proofs.Common.{Option, Some, None}
use mathlib.Core.Path.{◌≡◌, refl, ap, sym, ◌∙◌}
use mathlib.Core.Bool.{Bool, true, false, not, ◌&&◌, true≢false, and-false}
use mathlib.Core.List.{List, []}
use Prim.Native.Nat.{ℕ, zero, suc, ◌<◌}
use native.Mathlib.Nat.{zero-add}
use native.Mathlib.Omega.{arith}
use lib.ListN.{length}
use Rattle.columns.specs.declared.Found.{Found}
use Rattle.columns.specs.declared.Found.TheVariants.{At, Nothing}
use Rattle.columns.specs.Column.{Bytes, row}
use Rattle.columns.specs.First.{found_if, indices_from, on_found}
use Rattle.columns.proofs.Indices.{index_kept, kept_index, indices_none}
use Rattle.columns.proofs.Truth.{and_true, not_false}
use Rattle.places.specs.declared.Pos.{Pos}
use Rattle.world.specs.Rows.{rows, kind_of, support_of}
use Rattle.world.specs.Find.{find, find_at}
use Rattle.world.proofs.Finding.{found_stands}
use Rattle.traits.specs.Traits.{traits}
use Rattle.refusals.specs.Accepted.{Table}
use Rattle.refusals.proofs.Accepted.{find_own}
use Rattle.supports.specs.Supports.{needs_support, lacks_support, support_issues}
use Rattle.supports.specs.Rows.{support_row}
use Rattle.subtables.specs.Subtable.{table_of}
use Rattle.subtables.proofs.Rows.{indices_numbers, table_count}
use Rattle.passes.specs.Passes.{issues_among}
use Rattle.clearing.specs.Largest.{HeldUpBy, HasSupport, EverySupported}
use Rattle.clearing.proofs.Steps.{lacks_among, still_left}
use Rattle.clearing.proofs.Left.{lacks-among, named_among}

-- ---- the row of a support

module _ (p t : Bytes) (i : ℕ) where
  -- it is a support
  pub row_supports : (j : ℕ) → support_row p t i ≡ At j → HeldUpBy p t i j
  unfolding support_row
  row_supports j h = at (support_of t i) refl h
    where
      here : (k : ℕ) (b : Bool) → (traits p t k).supports ≡ b → found_if b k Nothing ≡ At j → (k ≡ j) × ((traits p t k).supports ≡ true)
      here k true s e = (cc, s)
      here k false s e = let z : ◌≡◌ {A = ℕ} 0 1 = cc in absurd (omega arith)

      found : (q : _) (x : Found) → support_of t i ≡ Some q → find t q ≡ x → on_found (λ j. found_if (traits p t j).supports j Nothing) Nothing x ≡ At j → HeldUpBy p t i j
      found q Nothing s f e = let z : ◌≡◌ {A = ℕ} 0 1 = cc in absurd (omega arith)
      found q (At k) s f e =
          let (same, supports) = here k (traits p t k).supports refl e in
          let (inside, stands) = found_stands t q k f in
          let own : HeldUpBy p t i k = record { inside = inside; stands = s ∙ ap Some (sym stands); supports = supports } in
          rw same at own

      at : (q : Option Pos) → support_of t i ≡ q → on_found (λ j. found_if (traits p t j).supports j Nothing) Nothing (find_at t q) ≡ At j → HeldUpBy p t i j
      at None s e = let z : ◌≡◌ {A = ℕ} 0 1 = cc in absurd (omega arith)
      at (Some q) s e = found q (find t q) s refl e

  -- and a support of a row is found
  pub supports_row : Table t → (j : ℕ) → HeldUpBy p t i j → support_row p t i ≡ At j
  unfolding support_row
  supports_row a j s = rw (s.stands, find_own t a j s.inside, s.supports) refl

  -- tests that agree at every row say alike whether a row lacks a support
  pub lacks_same : (f g : ℕ → Bool) → ((j : ℕ) → j < rows t → f j ≡ g j) → lacks_among p t f i ≡ lacks_among p t g i
  unfolding lacks_among
  lacks_same f g same = ap (λ b. needs_support (kind_of t i) && not b) (go (support_row p t i) refl)
    where
      go : (x : Found) → support_row p t i ≡ x → on_found f false x ≡ on_found g false x
      go Nothing e = refl
      go (At j) e = same j (row_supports j e).inside

-- ---- sets of rows

module _ (p t : Bytes) (a : Table t) (set : ℕ → Bool) (i : ℕ) where
  -- a row that has a support in the set does not lack one among its rows
  pub has_support : HasSupport p t set i → lacks_among p t set i ≡ false
  unfolding lacks_among
  has_support h = rw (supports_row p t i a h.support h.holds, h.among) (and-false (needs_support (kind_of t i)))

  -- nor does one that needs none
  needs_none : needs_support (kind_of t i) ≡ false → lacks_among p t set i ≡ false
  unfolding lacks_among
  needs_none n = rw n refl

  -- one that lacks a support needs it
  pub lacks_needs : lacks_among p t set i ≡ true → needs_support (kind_of t i) ≡ true
  unfolding lacks_among
  lacks_needs h = (and_true (needs_support (kind_of t i)) _ h).0

  -- one that needs a support, and does not lack it, has it
  pub support-of : needs_support (kind_of t i) ≡ true → lacks_among p t set i ≡ false → HasSupport p t set i
  unfolding lacks_among
  support-of n h = go (support_row p t i) refl (rw n at h)
    where
      go : (x : Found) → support_row p t i ≡ x → not (on_found set false x) ≡ false → HasSupport p t set i
      go Nothing e f = absurd (true≢false f)
      go (At j) e f = record { support = j; among = not_false (set j) f; holds = row_supports p t i j e }

  pub lacks_none : (needs_support (kind_of t i) ≡ true → HasSupport p t set i) → lacks_among p t set i ≡ false
  lacks_none h = go (needs_support (kind_of t i)) refl
    where
      go : (b : Bool) → needs_support (kind_of t i) ≡ b → lacks_among p t set i ≡ false
      go true n = has_support (h n)
      go false n = needs_none n

module _ (p t : Bytes) (a : Table t) (set : ℕ → Bool) where
  abbrev numbers : List ℕ
  numbers = indices_from set (rows t) 0

  -- Every row of the set that needs support has it, where the support list of the table that the set makes names none,
  pub none-named : issues_among p t numbers ≡ [] → EverySupported p t set
  none-named e i l s n =
      let place = kept_index set (rows t) 0 i (record { from = omega arith; below = omega arith; holds = s }) in
      support-of p t a set i n (sym (rw place.is at (named_among p t a set place.at place.inside)) ∙ rw e refl)

  -- and only there.
  pub named_none : EverySupported p t set → issues_among p t numbers ≡ []
  unfolding support_issues
  named_none h = indices_none (lacks_support p (table_of t numbers)) (rows (table_of t numbers)) 0 λ k _ l.
      let inside : k < length numbers = rw (zero-add, table_count t numbers (indices_numbers t set)) at l in
      let kept = index_kept set (rows t) 0 k inside in
      lacks-among p t a set k inside ∙ lacks_none p t a set (row numbers k) (λ n. h (row numbers k) (rw zero-add at kept.below) kept.holds n)

  -- Of such a set no pass removes a row.
  pub every_left : EverySupported p t set → (k i : ℕ) → i < rows t → set i ≡ true → still_left p t k i ≡ true
  unfolding still_left
  every_left h zero i l s = refl
  every_left h (suc k) i l s =
      rw (every_left h k i l s)
      (ap not (lacks_none p t a (still_left p t k) i λ n.
      let its = h i l s n in
      record { support = its.support; among = every_left h k its.support its.holds.inside its.among; holds = its.holds }))
