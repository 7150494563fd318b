-- Laws of the rows of a table, as a list.
-- Assumes nothing.
use mathlib.Core.Path.{◌≡◌, refl}
use mathlib.Core.List.{List, [], ◌∷◌}
use Prim.Native.Nat.{ℕ, zero, suc, ◌+◌, ◌-◌, ◌≤◌, ◌<◌}
use native.Mathlib.Omega.{arith}
use Rattle.columns.specs.Column.{Bytes, part}
use Rattle.world.specs.Rows.{rows, pos_of}
use Rattle.layout.proofs.Fields.{part_place}
use Rattle.refusals.specs.Accepted.{Table}
use Rattle.refusals.proofs.Accepted.{later_after}
use Rattle.unions.specs.Union.{rows_from, rows_of}
use Rattle.unions.proofs.Rising.{Past, Rising}

-- ---- the rows from row i on

abbrev pub rows_left : Bytes → ℕ → List Bytes
rows_left t i = rows_from t (rows t - i) i

pub rows-left : (t : Bytes) (i : ℕ) → i < rows t → rows_left t i ≡ part 32 t i ∷ rows_left t (i + 1)
unfolding rows_from
rows-left t i l = let e : rows t - i ≡ suc (rows t - (i + 1)) = omega arith in rw e refl

pub none_left : (t : Bytes) (i : ℕ) → i ≡ rows t → rows_left t i ≡ []
unfolding rows_from
none_left t i h = let e : rows t - i ≡ 0 = omega arith in rw e refl

module _ (t : Bytes) (a : Table t) where
  past_rows : (k n i : ℕ) → k < i → i + n ≤ rows t → Past (pos_of t k) (rows_from t n i)
  unfolding rows_from
  past_rows k zero i l h = tt
  past_rows k (suc n) i l h = (rw (part_place t i) (later_after t a k i l (omega arith)), past_rows k n (i + 1) (omega arith) (omega arith))

  -- all rows past row i stand past it
  pub past_left : (i : ℕ) → i < rows t → Past (pos_of t i) (rows_left t (i + 1))
  past_left i l = past_rows i (rows t - (i + 1)) (i + 1) (omega arith) (omega arith)

  rising_from : (n i : ℕ) → i + n ≤ rows t → Rising (rows_from t n i)
  unfolding rows_from
  rising_from zero i h = tt
  rising_from (suc n) i h = (rw (part_place t i) (past_rows i n (i + 1) (omega arith) (omega arith)), rising_from n (i + 1) (omega arith))

  -- "ordered by x, then y, then z"
  pub rising_rows : Rising (rows_of t)
  rising_rows = rising_from (rows t) 0 (omega arith)
