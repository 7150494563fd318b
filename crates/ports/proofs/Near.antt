-- Laws of what the entries of the rows by each row find.
-- Assumes nothing.
use Rattle.std.proofs.Common.{Option, Some, None}
use mathlib.Core.Path.{◌≡◌, refl, sym, ◌∙◌}
use mathlib.Core.Bool.{Bool, true, false, true≢false}
use Prim.Native.Nat.{ℕ, ◌+◌, ◌*◌, ◌≤◌, ◌<◌}
use native.Mathlib.Nat.{suc-mul, mul-le-mul_right}
use native.Mathlib.Omega.{arith}
use lib.Dec.{eqb}
use lib.ListN.{length}
use borrow.Author.Tests.{eq-eqb, ne_eqb}
use Rattle.columns.specs.declared.Found.{Found}
use Rattle.columns.specs.declared.Found.TheVariants.{At, Nothing}
use Rattle.columns.specs.Column.{Bytes, Column, row}
use Rattle.columns.specs.First.{on_found}
use Rattle.places.specs.declared.Pos.{Pos}
use Rattle.places.specs.Places.{same_pos, is_at}
use Rattle.places.proofs.Order.{same_pos_true, same_pos_refl}
use Rattle.world.specs.Rows.{rows, pos_of}
use Rattle.world.specs.Find.{find, find_at}
use Rattle.world.proofs.Finding.{found_stands}
use Rattle.refusals.specs.Accepted.{Table}
use Rattle.refusals.proofs.Accepted.{find-at}
use Rattle.classes.specs.Towards.{places}
use Rattle.circuit.specs.Circuit.{no_row}
use Rattle.adjacency.specs.Adjacency.{place_by, row_by}
use Rattle.adjacency.proofs.Beside.{near_at, near_long}
use Rattle.ports.specs.Ports.{Prepared, Inside, found_in}

-- what the look-up finds is a row of the table
pub found_inside : (t : Bytes) (p : Option Pos) → Inside t (find_at t p)
found_inside t None = tt
found_inside t (Some q) = go (find t q) refl
  where
    go : (f : Found) → find t q ≡ f → Inside t f
    go (At j) e = (found_stands t q j e).0
    go Nothing e = tt

-- and such a row is the row of its entry
entry_found : (t : Bytes) → rows t < no_row → (f : Found) → Inside t f → found_in (on_found (λ j. j) no_row f) ≡ f
entry_found t few (At j) h = rw (ne_eqb j no_row (λ e. omega arith))
entry_found t few Nothing h = refl

module _ {t : Bytes} {near : Column} {i : ℕ} (h : Prepared t near i) (k : ℕ) (l : k < places) where
  -- the entry of place k by row i stands inside the column, which is not long
  pub near_inside : (k * rows t + i < length near) × (length near ≤ 7168)
  near_inside =
      rw (h.by, near_long t)
      (omega (arith, h.inside, suc-mul k (rows t), mul-le-mul_right (rows t) l), omega (arith, h.table.few))

  -- and is that of the row found there
  pub near_found : found_in (row near (k * rows t + i)) ≡ find_at t (place_by t i k)
  unfolding row_by
  near_found =
      rw (h.by, near_at t k i l h.inside)
      (entry_found t (omega (arith, h.table.few)) _ (found_inside t (place_by t i k)))

-- a row stands at a place exactly where it is found there
module _ (t : Bytes) (table : Table t) (i : ℕ) (inside : i < rows t) where
  pub stands_found : (p : Option Pos) → is_at p (pos_of t i) ≡ on_found (λ k. eqb k i) false (find_at t p)
  stands_found None = refl
  stands_found (Some q) = go (same_pos q (pos_of t i)) refl (find t q) refl
    where
      go : (b : Bool) → same_pos q (pos_of t i) ≡ b → (f : Found) → find t q ≡ f → b ≡ on_found (λ k. eqb k i) false f
      go true e f g = rw (sym g ∙ find-at t table q i inside (sym (same_pos_true q (pos_of t i) e)), eq-eqb i i refl)
      go false e Nothing g = refl
      go false e (At k) g = sym (ne_eqb k i (λ same. true≢false (sym (rw (sym (found_stands t q k g).1, same) (same_pos_refl (pos_of t i))) ∙ e)))
