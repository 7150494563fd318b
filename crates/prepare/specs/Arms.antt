-- The arms of the dust as they are read off the columns: where a row stands beside it, the stored entry, or inferred where there is none.
-- Assumes nothing.
use Rattle.std.specs.Prelude.{Bool, cond, not, ◌&&◌, ◌||◌, ℕ, ◌+◌, ◌-◌, ◌*◌, ◌%◌, length, eqb}
use Rattle.columns.specs.Column.{Bytes, Column, row, tabulate}
use Rattle.blocks.specs.Kind.{is_dust, is_source, is_diode}
use Rattle.places.specs.Places.{North, East, South, West, opposite}
use Rattle.world.specs.Rows.{stored_arm}
use Rattle.classes.specs.Class.{rise_in, blocks_in, kind_in, facing_in}
use Rattle.classes.specs.Towards.{Above}
use Rattle.circuit.specs.Circuit.{no_row, beside_in}

-- "dust or a connecting component", of the class c, to dust along f
abbrev pub joins_in : ℕ → ℕ → Bool
joins_in c f =
    is_dust (kind_in c)
    || (is_source (kind_in c) || (is_diode (kind_in c) && (not (eqb (facing_in c) 0) && (eqb (facing_in c) f || eqb (facing_in c) (opposite f)))))

module _ (near class : Column) (i : ℕ) where
  -- "a block beside with a rise, dust on top of it and no blocker above this dust": the block is row a
  unfoldable pub rises_in : ℕ → Bool
  rises_in a =
      not (eqb (rise_in (row class a)) 0)
      && (is_dust (kind_in (row class (beside_in near class a Above))) && not (blocks_in (row class (beside_in near class i Above))))

  -- the inferred arm of row i along f, past row a beside it: 0 None, 1 Side, 2 Up
  unfoldable pub infer_in : ℕ → ℕ → ℕ
  infer_in f a = cond (joins_in (row class a) f) 1 (cond (rises_in a) (rise_in (row class a)) 0)

module _ (t : Bytes) (near class : Column) (i : ℕ) where
  -- past row a, stored or inferred, in two bits
  unfoldable pub arm_past : ℕ → ℕ → ℕ
  arm_past f a = cond (eqb (stored_arm t i f) 0) (infer_in near class i f a) ((stored_arm t i f - 1) % 4)

  -- and 0 where no row stands there
  unfoldable pub arm_from : ℕ → ℕ
  arm_from f = let a = beside_in near class i (f - 1) in cond (eqb a no_row) 0 (arm_past f a)

  -- the four arms of dust; no other row has arms
  unfoldable pub arms_from : ℕ
  arms_from =
      cond (is_dust (kind_in (row class i)))
      (arm_from North * 16777216 + (arm_from East * 67108864 + (arm_from South * 268435456 + arm_from West * 1073741824)))
      0

-- the classes with their arms, of the classes without
unfoldable pub with_arms : Bytes → Column → Column → Column
with_arms t near class = tabulate (length class) (λ i. row class i + arms_from t near class i)
