-- Laws of a table moved by an offset: each row is at its moved position and is otherwise the row it was, and the table is accepted again.
-- Assumes nothing.
use mathlib.Core.Path.{◌≡◌, refl, ap, sym, ◌∙◌}
use mathlib.Core.Bool.{Bool, true, false}
use Prim.Native.Nat.{ℕ, ◌*◌, ◌+◌, ◌-◌, ◌/◌, ◌≤◌, ◌<◌}
use native.Mathlib.Omega.{arith}
use lib.Dec.{ltb}
use lib.ListN.{length, drop, get_or, length-drop}
use lib.Seq.{get_or-append-add, get_or-drop}
use borrow.Author.Tests.{ltb-false}
use Rattle.columns.specs.Column.{Bytes, part}
use Rattle.columns.specs.First.{all_below}
use Rattle.columns.specs.Signal.{max_signal}
use Rattle.columns.proofs.First.{all_at}
use Rattle.columns.proofs.Parts.{length_part, part_at, length_concat_rows, part_concat_rows}
use Rattle.columns.proofs.Truth.{and_true}
use Rattle.blocks.specs.Kind.{Comparator}
use Rattle.places.specs.declared.Pos.{Pos}
use Rattle.world.specs.Rows.{rows, byte_of, pos_of, kind_of, level_or}
use Rattle.layout.specs.Good.{good_place, good_row}
use Rattle.layout.proofs.Fields.{part_place, good_range, level_again, good_again}
use Rattle.refusals.specs.Accepted.{Table}
use Rattle.refusals.proofs.Accepted.{OfKinds}
use Rattle.moving.specs.Move.{moved_by, pos_bytes, moved_row, moved_table, good_offset, on_ground}
use Rattle.moving.proofs.Order.{moved_before}
use Rattle.moving.proofs.Words.{pos_back}

-- ---- a row by itself

module _ (by : Pos) (r : Bytes) where
  pub length_row : length r ≡ 32 → length (moved_row by r) ≡ 32
  unfolding moved_row pos_bytes
  length_row e = simp length-drop (omega arith)

  -- "the 32 bytes after moving" are a row at the moved position
  pub moved_place : good_place (moved_by by (pos_of r 0)) ≡ true → pos_of (moved_row by r) 0 ≡ moved_by by (pos_of r 0)
  unfolding moved_row
  moved_place h = pos_back (moved_by by (pos_of r 0)) (drop 12 r) (good_range (moved_by by (pos_of r 0)) h)

  -- and every other byte is the row's
  pub moved_rest : (b : ℕ) → 12 ≤ b → get_or (moved_row by r) b 0 ≡ get_or r b 0
  unfolding moved_row pos_bytes
  moved_rest b h =
      let e : 12 + (b - 12) ≡ b = omega arith in
      rw (← e) (get_or-append-add (pos_bytes (moved_by by (pos_of r 0))) (drop 12 r) (b - 12) 0 ∙ get_or-drop 12 r (b - 12) 0)

-- ---- a table of whole rows

-- where the table may be moved, each of its rows may
pub stays : (by : Pos) (t : Bytes) → on_ground by t ≡ true → (i : ℕ) → i < rows t → good_place (moved_by by (pos_of t i)) ≡ true
unfolding on_ground
stays by t h i l =
    let stay : ℕ → Bool = λ k. good_place (moved_by by (pos_of t k)) in
    all_at stay (rows t) (and_true (good_offset by) (all_below stay (rows t)) h).1 i l

module _ (by : Pos) (t : Bytes) (whole : length t ≡ rows t * 32) where
  moved : ℕ → Bytes
  moved k = moved_row by (part 32 t k)

  wide : (k : ℕ) → k < rows t → length (moved k) ≡ 32
  unfolding moved
  wide k l = length_row by (part 32 t k) (length_part 32 t k (omega arith))

  -- the moved table is as long
  pub length_moved : length (moved_table by t) ≡ length t
  unfolding moved_table moved
  length_moved = length_concat_rows 32 moved (rows t) wide ∙ sym whole

  pub rows_moved : rows (moved_table by t) ≡ rows t
  rows_moved = ap (λ n. n / 32) length_moved

  -- "Every input row, the second's moved": row i is the row that was, moved
  pub moved_part : (i : ℕ) → i < rows t → part 32 (moved_table by t) i ≡ moved_row by (part 32 t i)
  unfolding moved_table moved
  moved_part i l = part_concat_rows 32 moved (rows t) wide i l

  -- it has every byte that it had, but for its position
  pub moved_byte : (i b : ℕ) → i < rows t → 12 ≤ b → b < 32 → byte_of (moved_table by t) i b ≡ byte_of t i b
  moved_byte i b l g h =
      sym (part_at 32 (moved_table by t) i b h)
      ∙ ap (λ r. get_or r b 0) (moved_part i l)
      ∙ moved_rest by (part 32 t i) b g
      ∙ part_at 32 t i b h

  -- and is at the moved position
  pub moved_at : (i : ℕ) → i < rows t → good_place (moved_by by (pos_of t i)) ≡ true → pos_of (moved_table by t) i ≡ moved_by by (pos_of t i)
  moved_at i l h =
      sym (part_place (moved_table by t) i)
      ∙ ap (λ r. pos_of r 0) (moved_part i l)
      ∙ moved_place by (part 32 t i) (rw (part_place t i) h)
      ∙ ap (moved_by by) (part_place t i)

  -- the rows are of the kinds that they were
  pub moved_kinds : (kinds : ℕ) → OfKinds kinds t → OfKinds kinds (moved_table by t)
  moved_kinds kinds k i l =
      let inside : i < rows t = rw rows_moved at l in
      rw (moved_byte i 12 inside (omega arith) (omega arith)) (k i inside)

-- ---- an accepted table

module _ (by : Pos) (t : Bytes) (a : Table t) (g : on_ground by t ≡ true) where
  same_rows : rows (moved_table by t) ≡ rows t
  same_rows = rows_moved by t a.whole

  at : (i : ℕ) → i < rows t → pos_of (moved_table by t) i ≡ moved_by by (pos_of t i)
  at i l = moved_at by t a.whole i l (stays by t g i l)

  agree : (i : ℕ) → i < rows t → (b : ℕ) → b < 32 → ltb b 12 ≡ false → byte_of (moved_table by t) i b ≡ byte_of t i b
  agree i l b h e = moved_byte by t a.whole i b l (ltb-false b 12 e) h

  good_moved : (i : ℕ) → i < rows t → good_row (moved_table by t) i ≡ true
  good_moved i l =
      good_again (λ b. ltb b 12) t (moved_table by t) i i (agree i l) (rw (at i l, stays by t g i l)) (a.good i l)

  low_moved : (i : ℕ) → i < rows t → kind_of (moved_table by t) i ≡ Comparator → level_or (moved_table by t) i 0 ≤ max_signal
  low_moved i l k =
      rw (level_again (λ b. ltb b 12) t (moved_table by t) i i (agree i l) refl 0)
      (a.low i l (rw (agree i l 12 (omega arith) refl) at k))

  -- an accepted table that is moved on the ground is an accepted table again
  pub moved-table : Table (moved_table by t)
  moved-table =
      record {
        whole = length_moved by t a.whole ∙ a.whole ∙ ap (λ n. n * 32) (sym same_rows);
        few = rw same_rows a.few;
        good = λ i l. good_moved i (rw same_rows at l);
        ordered = λ i l.
            let inside : i + 1 < rows t = rw same_rows at l in
            rw (at i (omega arith), at (i + 1) inside, moved_before by (pos_of t i) (pos_of t (i + 1))) (a.ordered i inside);
        low = λ i l k. low_moved i (rw same_rows at l) k;
      }
