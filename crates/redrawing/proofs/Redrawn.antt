-- Laws of the redrawn table: as many rows, and every byte of theirs but the arms as it was. So its kinds, positions, look-ups, traits and
-- inferred arms are those of the table. Nothing is asked of the table, but where the law says so.
-- Assumes nothing.
use mathlib.Core.Path.{◌≡◌, refl, sym, ◌∙◌}
use mathlib.Core.Logic.{by_cases}
use Prim.Native.Nat.{ℕ, ◌*◌, ◌<◌}
use native.Mathlib.Decide.{dec_lt}
use native.Mathlib.Omega.{arith}
use lib.ListN.{length, get_or, get_or-eq_default}
use Rattle.columns.specs.Column.{Bytes, part}
use Rattle.columns.proofs.Parts.{length_concat_rows, part_concat_rows, concat_rows_at}
use Rattle.world.specs.Rows.{rows, byte_of, pos_of}
use Rattle.layout.proofs.Fields.{place_again}
use Rattle.wire.proofs.Region.{AlikeOver, rows_alike}
use Rattle.wire.proofs.Alike.{Everywhere}
use Rattle.redrawing.specs.Drawn.{redrawn_row, update_wire_shapes}
use Rattle.redrawing.proofs.Rows.{is_arm_byte, Kept, length_row, row_keeps}

module _ (p t : Bytes) where
  whole_row : (k : ℕ) → k < rows t → length (redrawn_row p t k) ≡ 32
  whole_row k l = length_row p t k (omega arith)

  pub redrawn_length : length (update_wire_shapes p t) ≡ rows t * 32
  unfolding update_wire_shapes
  redrawn_length = length_concat_rows 32 (redrawn_row p t) (rows t) whole_row

  pub redrawn_rows : rows (update_wire_shapes p t) ≡ rows t
  redrawn_rows = rw redrawn_length (omega arith)

  pub redrawn_part : (i : ℕ) → i < rows t → part 32 (update_wire_shapes p t) i ≡ redrawn_row p t i
  unfolding update_wire_shapes
  redrawn_part = part_concat_rows 32 (redrawn_row p t) (rows t) whole_row

  -- any byte of a row
  pub redrawn_at : (i b : ℕ) → i < rows t → b < 32 → byte_of (update_wire_shapes p t) i b ≡ get_or (redrawn_row p t i) b 0
  unfolding update_wire_shapes
  redrawn_at = concat_rows_at 32 (redrawn_row p t) (rows t) whole_row

  -- one that is not an arm's
  pub redrawn_keeps : (i b : ℕ) → i < rows t → Kept b → byte_of (update_wire_shapes p t) i b ≡ byte_of t i b
  redrawn_keeps i b l k = redrawn_at i b l k.0 ∙ row_keeps p t i b k

  pub redrawn_place : (i : ℕ) → i < rows t → pos_of (update_wire_shapes p t) i ≡ pos_of t i
  redrawn_place i l = place_again is_arm_byte t (update_wire_shapes p t) i i (λ b h k. redrawn_keeps i b l (h, k)) refl

  -- the same blocks at every position
  pub redrawn_over : AlikeOver Everywhere (update_wire_shapes p t) t
  redrawn_over =
      rows_alike (update_wire_shapes p t) t redrawn_rows (λ i l. redrawn_place i (rw redrawn_rows at l))
      (λ i l _.
      let inside : i < rows t = rw redrawn_rows at l in
      record {
        kind = redrawn_keeps i 12 inside (omega arith, refl);
        facing = redrawn_keeps i 13 inside (omega arith, refl);
        shape = redrawn_keeps i 28 inside (omega arith, refl);
      })

  -- where the table has no bytes past its rows, no row number need be one of its rows
  module _ (whole : length t ≡ rows t * 32) where
    pub redrawn_long : length (update_wire_shapes p t) ≡ length t
    redrawn_long = redrawn_length ∙ sym whole

    pub every_kept : (i b : ℕ) → Kept b → byte_of (update_wire_shapes p t) i b ≡ byte_of t i b
    every_kept i b k =
        by_cases (dec_lt i (rows t)) (λ l. redrawn_keeps i b l k)
        (λ n. get_or-eq_default (update_wire_shapes p t) 0 (rw redrawn_length (omega arith)) ∙ sym (get_or-eq_default t 0 (omega arith)))
