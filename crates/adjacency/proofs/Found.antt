-- Laws of an accepted table's positions as numbers: they rise, and the row found at a position is the row of its number.
-- Assumes nothing.
use mathlib.Core.Path.{◌≡◌, refl, ap, ◌∙◌}
use mathlib.Core.Bool.{Bool, true, false, not, cond, ◌&&◌}
use Prim.Native.Nat.{ℕ, ◌+◌, ◌≤◌, ◌<◌}
use native.Mathlib.Omega.{arith}
use lib.ListN.{length}
use Rattle.columns.specs.Column.{Bytes, Column, row}
use Rattle.columns.specs.declared.Found.{Found}
use Rattle.columns.specs.declared.Found.TheVariants.{At, Nothing}
use Rattle.columns.specs.First.{on_found, found_if}
use Rattle.columns.proofs.Truth.{and_true}
use Rattle.columns.proofs.Columns.{length_tabulate, row_tabulate}
use Rattle.columns.proofs.First.{first_at, first_same}
use Rattle.places.specs.declared.Pos.{Pos}
use Rattle.places.specs.Signed.{signed32}
use Rattle.places.specs.Places.{same_pos}
use Rattle.places.proofs.Near.{near_sum, near_itself}
use Rattle.world.specs.Rows.{rows, word_of, pos_of}
use Rattle.world.specs.Find.{is_at_or_past, first_at_or_past, find, if_standing}
use Rattle.layout.specs.Good.{in_range, good_place}
use Rattle.layout.proofs.Fields.{Place, good-field}
use Rattle.refusals.specs.Accepted.{Table}
use Rattle.circuit.specs.Circuit.{no_row}
use Rattle.adjacency.specs.Adjacency.{packed, positions_of}
use Rattle.adjacency.specs.Steps.{here}
use Rattle.adjacency.specs.Search.{Placed, Rising, is_past, if_is, row_at}
use Rattle.adjacency.proofs.Packed.{Held, accepted_held, packed_bounds, before_less, before_ltb, same_eqb}

module _ (t : Bytes) (a : Table t) (i : ℕ) (l : i < rows t) where
  good-place : good_place (pos_of t i) ≡ true
  good-place = good-field t i (a.good i l) Place

  -- the three words of a row's position
  pub words_in_range : (in_range (signed32 (word_of t i 0)) ≡ true) × (in_range (signed32 (word_of t i 4)) ≡ true) × (in_range (signed32 (word_of t i 8)) ≡ true)
  unfolding pos_of good_place
  words_in_range =
      let (xy, z) = and_true (in_range (signed32 (word_of t i 0)) && in_range (signed32 (word_of t i 4))) _ good-place in
      let (x, y) = and_true (in_range (signed32 (word_of t i 0))) _ xy in
      (x, y, z)

  pub row_held : Held 1000000 (pos_of t i)
  row_held = accepted_held (pos_of t i) good-place

  row_near : Held 1000001 (pos_of t i)
  row_near = near_sum (near_itself 1 (pos_of t i)) row_held

-- ---- the column of the positions

module _ {t : Bytes} {s : Column} (p : Placed t s) where
  pub placed_long : length s ≡ rows t
  unfolding positions_of
  placed_long = rw p.is (length_tabulate (rows t) 0 (λ i. packed (pos_of t i)))

  pub placed_at : (i : ℕ) → i < rows t → row s i ≡ packed (pos_of t i)
  unfolding positions_of
  placed_at i l = rw p.is (row_tabulate (rows t) (λ i. packed (pos_of t i)) i l)

  pub placed_bounds : (i : ℕ) → i < rows t → (here ≤ row s i) × (row s i < 9223372036854775808)
  placed_bounds i l = rw (placed_at i l) (packed_bounds (pos_of t i) (row_held t p.table i l))

  rises : (i : ℕ) → i + 1 < rows t → row s i < row s (i + 1)
  rises i l =
      let k : i < rows t = omega arith in
      rw (placed_at i k, placed_at (i + 1) l)
      (before_less (pos_of t i) (pos_of t (i + 1)) (row_near t p.table i k) (row_near t p.table (i + 1) l) (p.table.ordered i l))

  pub placed_rises : Rising s
  placed_rises =
      record {
        few = rw placed_long p.table.few;
        rises = λ i l. rises i (rw placed_long at l);
        low = λ i l. (placed_bounds i (rw placed_long at l)).0;
        high = λ i l. (placed_bounds i (rw placed_long at l)).1;
      }

  module _ (q : Pos) (c : Held 1000001 q) where
    -- row i is at q or past it just where its number is so
    past : (i : ℕ) → i < rows t → is_at_or_past t q i ≡ is_past s (packed q) i
    past i l = rw (placed_at i l) (ap not (before_ltb (pos_of t i) q (row_near t p.table i l) c))

    pub found_row : on_found (λ j. j) no_row (find t q) ≡ row_at s (packed q)
    unfolding find first_at_or_past row_at
    found_row =
        rw (placed_long, ← first_same (is_at_or_past t q) (is_past s (packed q)) (rows t) 0 (λ k _ l. past k (omega arith)))
        (go (first_at_or_past t q) refl)
      where
        either : (b : Bool) (i : ℕ) → on_found (λ j. j) no_row (found_if b i Nothing) ≡ cond b i no_row
        either true i = refl
        either false i = refl

        go : (x : Found) → first_at_or_past t q ≡ x → on_found (λ j. j) no_row (if_standing t q x) ≡ on_found (if_is s (packed q)) no_row x
        go Nothing e = refl
        go (At i) e =
            let l : i < rows t = omega (arith, (first_at (is_at_or_past t q) (rows t) 0 i e).inside) in
            either (same_pos (pos_of t i) q) i ∙ rw (placed_at i l, same_eqb (pos_of t i) q (row_near t p.table i l) c)
