-- Laws of the rows by each row of an accepted table: each is the row at a step from it; and where it stands in the column of all.
-- Assumes nothing.
use mathlib.Core.Path.{◌≡◌, refl, ap, sym, ◌∙◌}
use mathlib.Core.Bool.{true}
use mathlib.Core.Logic.{⊎_elim}
use Prim.Native.Nat.{ℕ, zero, suc, ◌+◌, ◌*◌, ◌<◌}
use native.Mathlib.Omega.{arith}
use lib.ListN.{length}
use lib.IntN.{ℤ}
use lib.Dec.{leb}
use borrow.Author.Tests.{leb-true, eqb-true, ne_eqb}
use Rattle.columns.specs.Column.{Bytes, Column, row}
use Rattle.columns.specs.First.{on_found}
use Rattle.columns.proofs.Truth.{or_true}
use Rattle.columns.proofs.First.{all_at}
use Rattle.columns.proofs.Columns.{length_tabulate, row_tabulate, same_rule}
use Rattle.columns.proofs.Parts.{length_concat_rows, concat_rows_at}
use Rattle.places.specs.Signed.{signed8}
use Rattle.places.specs.Places.{offset, step, beside}
use Rattle.places.proofs.Steps.{Step, down, level, up}
use Rattle.world.specs.Rows.{rows, byte_of, pos_of, support_of}
use Rattle.world.specs.Find.{find}
use Rattle.layout.specs.Good.{is_unit}
use Rattle.layout.proofs.Fields.{Support, good-field}
use Rattle.classes.specs.Towards.{places}
use Rattle.circuit.specs.Circuit.{no_row}
use Rattle.adjacency.specs.Adjacency.{place_by, row_by, near_of}
use Rattle.adjacency.specs.Steps.{step_x, step_y, step_to, unit_of, support_step}
use Rattle.adjacency.specs.Search.{Placed, column_by, row_at, stepped, walked}
use Rattle.adjacency.proofs.Packed.{counted, step_held, step_packed}
use Rattle.adjacency.proofs.Found.{placed_long, placed_at, row_held, found_row}

-- a byte of an accepted offset is a step
record Unit (b : ℕ) : Type 0 where
  along : Step (signed8 b)
  counts : counted along ≡ unit_of b

unit : (b : ℕ) → is_unit b ≡ true → Unit b
unfolding signed8
unit zero h = record { along = level; counts = refl }
unit (suc zero) h = record { along = up; counts = refl }
unit (suc (suc b)) h =
    ⊎_elim (λ (l : leb (suc (suc b)) 1 ≡ true). absurd (omega (arith, leb-true (suc (suc b)) 1 l)))
    (λ e. rw (eqb-true (suc (suc b)) 255 e) (record { along = down; counts = refl }))
    (or_true _ _ h)

module _ {t : Bytes} {s : Column} (p : Placed t s) (i : ℕ) (l : i < rows t) where
  -- the row at a step from row i
  at_step : {dx dy dz : ℤ} (x : Step dx) (y : Step dy) (z : Step dz) (by : ℕ) → counted x * step_x + (counted y * step_y + counted z) ≡ by
      → on_found (λ j. j) no_row (find t (offset (pos_of t i) dx dy dz)) ≡ row_at s (stepped s by i)
  at_step x y z by e =
      found_row p _ (step_held (pos_of t i) (row_held t p.table i l) x y z)
      ∙ ap (row_at s) (step_packed (pos_of t i) (row_held t p.table i l) x y z ∙ rw (e, placed_at p i l))

  -- at a place but the support
  row-by : (k : ℕ) → k < 6 → row_by t i k ≡ row_at s (stepped s (step_to k) i)
  unfolding row_by place_by beside step
  row-by zero h = at_step level level down (step_to 0) refl
  row-by (suc zero) h = at_step up level level (step_to 1) refl
  row-by (suc (suc zero)) h = at_step level level up (step_to 2) refl
  row-by (suc (suc (suc zero))) h = at_step down level level (step_to 3) refl
  row-by (suc (suc (suc (suc zero)))) h = at_step level up level (step_to 4) refl
  row-by (suc (suc (suc (suc (suc zero))))) h = at_step level down level (step_to 5) refl
  row-by (suc (suc (suc (suc (suc (suc k)))))) h = absurd (omega arith)

  -- where the support's offset is given, its bytes are steps
  units : byte_of t i 19 ≡ 1 → (k : ℕ) → k < 3 → Unit (byte_of t i (20 + k))
  units e k h =
      unit (byte_of t i (20 + k)) (all_at (λ k. is_unit (byte_of t i (20 + k))) 3 (rw e at (good-field t i (p.table.good i l) Support)) k h)

  -- the row of the support
  pub support_by : byte_of t i 19 ≡ 1 → row_by t i 6 ≡ row_at s (stepped s (support_step t i) i)
  unfolding row_by place_by support_of
  support_by e =
      let x = units e 0 (omega arith) in
      let y = units e 1 (omega arith) in
      let z = units e 2 (omega arith) in
      rw e (at_step x.along y.along z.along (support_step t i) (rw (x.counts, y.counts, z.counts)))

pub no_support : (t : Bytes) (i : ℕ) → ¬ (byte_of t i 19 ≡ 1) → row_by t i 6 ≡ no_row
unfolding row_by place_by support_of
no_support t i n = rw (ne_eqb (byte_of t i 19) 1 n)

-- ---- the column of all

-- the rows at a place but the support
pub walked_by : {t : Bytes} {s : Column} → Placed t s → (k : ℕ) → k < 6 → walked s (step_to k) ≡ column_by t k
unfolding walked
walked_by {t} {s} p k h =
    rw (placed_long p) (same_rule (rows t) (λ i. row_at s (stepped s (step_to k) i)) (λ i. row_by t i k) (λ i l. sym (row-by p i l k h)))

pub column_long : (t : Bytes) (k : ℕ) → length (column_by t k) ≡ rows t
column_long t k = length_tabulate (rows t) 0 (λ i. row_by t i k)

-- the entry of row i at place k
pub near_at : (t : Bytes) (k i : ℕ) → k < places → i < rows t → row (near_of t) (k * rows t + i) ≡ row_by t i k
unfolding near_of
near_at t k i h l = concat_rows_at (rows t) (column_by t) places (λ k _. column_long t k) k i h l ∙ row_tabulate (rows t) (λ i. row_by t i k) i l

-- as long as seven columns
pub near_long : (t : Bytes) → length (near_of t) ≡ places * rows t
unfolding near_of
near_long t = length_concat_rows (rows t) (column_by t) places (λ k _. column_long t k)
