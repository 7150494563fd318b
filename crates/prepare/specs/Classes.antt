-- The classes of a table's rows, under a profile.
-- Assumes nothing.
use Rattle.std.specs.Prelude.{◌≡◌, Bool, cond, ℕ, ◌+◌, ◌-◌, ◌*◌}
use Rattle.columns.specs.Column.{Bytes, Column, tabulate}
use Rattle.columns.specs.First.{on_found}
use Rattle.blocks.specs.Profile.{torch_charges_above}
use Rattle.places.specs.Places.{North, East, South, West, beside}
use Rattle.world.specs.Rows.{rows, pos_of, kind_of, facing_of}
use Rattle.world.specs.Find.{find}
use Rattle.traits.specs.declared.BlockRedstoneTraits.{BlockRedstoneTraits}
use Rattle.traits.specs.Traits.{traits}
use Rattle.arms.specs.Arms.{arm_of}
use Rattle.adjacency.specs.Adjacency.{near_of}

-- the value where the bit is set
abbrev pub bit : ℕ → Bool → ℕ
bit value b = cond b value 0

-- rise and traits
abbrev pub trait_bits : BlockRedstoneTraits → ℕ
trait_bits r = (r.rise - 1) + (bit 4 r.blocks + (bit 8 r.weak + (bit 16 r.strong + bit 32 r.drives)))

module _ (p t : Bytes) (i : ℕ) where
  -- rise and traits, kind and facing, of row i, and whether a torch charges the block above
  unfoldable pub armless : ℕ
  armless = trait_bits (traits p t i) + (bit 128 (torch_charges_above p) + (kind_of t i * 256 + facing_of t i * 65536))

  -- its arm along f: 0 None, 1 Side, 2 Up. Where the cell beside is empty nothing is reached along it, and it is not asked for.
  unfoldable pub arm_bits : ℕ → ℕ
  arm_bits f = on_found (λ _. arm_of p t i f - 1) 0 (find t (beside (pos_of t i) f))

  unfoldable pub arms_along : ℕ
  arms_along = arm_bits North * 16777216 + (arm_bits East * 67108864 + (arm_bits South * 268435456 + arm_bits West * 1073741824))

  unfoldable pub class_of : ℕ
  class_of = armless + arms_along

-- the classes before the arms are known, and with them
unfoldable pub armless_of : Bytes → Bytes → Column
armless_of p t = tabulate (rows t) (armless p t)

unfoldable pub classes_of : Bytes → Bytes → Column
classes_of p t = tabulate (rows t) (class_of p t)

-- The two columns are those of the table t under the profile p.
pub record Prepared (p t : Bytes) (near class : Column) : Type 0 where
  pub near_is : near ≡ near_of t
  pub class_is : class ≡ classes_of p t
