-- The rows of a moved table are the rows of the table, moved.
-- Assumes nothing.
use mathlib.Core.Path.{◌≡◌, refl, ap₂, sym, ◌∙◌}
use mathlib.Core.List.{◌∷◌, map}
use Prim.Native.Nat.{ℕ, zero, suc, ◌+◌, ◌*◌, ◌≤◌, ◌<◌}
use native.Mathlib.Omega.{arith}
use lib.ListN.{length}
use Rattle.columns.specs.Column.{Bytes}
use Rattle.places.specs.declared.Pos.{Pos}
use Rattle.world.specs.Rows.{rows}
use Rattle.moving.specs.Move.{moved_row, moved_table}
use Rattle.moving.proofs.Moved.{rows_moved, moved_part}
use Rattle.unions.specs.Union.{rows_from, rows_of, HasRow}
use Rattle.merge.specs.Merge.{moved_rows}
use Rattle.merge.specs.Holds.{HasMoved}

module _ (by : Pos) (t : Bytes) (whole : length t ≡ rows t * 32) where
  moved_from : (n i : ℕ) → i + n ≤ rows t → rows_from (moved_table by t) n i ≡ map (moved_row by) (rows_from t n i)
  unfolding rows_from
  moved_from zero i l = refl
  moved_from (suc n) i l = ap₂ ◌∷◌ (moved_part by t whole i (omega arith)) (moved_from n (i + 1) (omega arith))

  pub rows_of_moved : rows_of (moved_table by t) ≡ moved_rows t by
  rows_of_moved = rw (rows_moved by t whole) (moved_from (rows t) 0 (omega arith))

  pub moved_has : (r : Bytes) → HasMoved by t r → HasRow (moved_table by t) r
  moved_has r h =
      record { row = h.row; inside = rw (rows_moved by t whole) h.inside; is = moved_part by t whole h.row h.inside ∙ h.is }

  pub has_moved : (r : Bytes) → HasRow (moved_table by t) r → HasMoved by t r
  has_moved r h =
      let l : h.row < rows t = rw (rows_moved by t whole) at h.inside in
      record { row = h.row; inside = l; is = sym (moved_part by t whole h.row l) ∙ h.is }
