-- The numbers by which the probe's calls answer what the inner functions answer as enums, structs and bools.
-- Assumes nothing.
use Rattle.std.specs.Prelude.{Bool, cond, ℕ, ◌+◌, ◌*◌, eqb, leb, ℤ, pos, Option, Some, None}
use Rattle.columns.specs.declared.Found.{Found}
use Rattle.columns.specs.declared.Found.TheVariants.{At, Nothing}
use Rattle.columns.specs.Column.{Bytes}
use Rattle.blocks.specs.declared.BlockProperties.{BlockProperties}
use Rattle.blocks.specs.Profile.{properties_of}
use Rattle.places.specs.declared.Pos.{Pos}
use Rattle.connectivity.specs.Ports.{repeater_input_pos, repeater_output_pos, comparator_input_pos, comparator_output_pos, device_side_positions}
use Rattle.traits.specs.declared.BlockRedstoneTraits.{BlockRedstoneTraits}

-- the row found, or the largest number of 64 bits
abbrev pub row_number : Found → ℕ
row_number (At i) = i
row_number Nothing = 18446744073709551615

abbrev pub bit : Bool → ℕ → ℕ
bit b value = cond b value 0

-- the properties as a sum of document 01's values; value 32 of the torch's byte is no property
abbrev pub properties_number : BlockProperties → ℕ
properties_number r =
    bit r.supports_components 1 + bit r.receives_weak_power 2 + bit r.receives_strong_power 4
    + bit r.repeater_reads_block_power 8
    + bit r.strong_power_drives_dust 16

-- a kind is a byte
unfoldable pub kind_properties : Bytes → ℕ → ℕ
kind_properties p k = cond (leb k 255) (properties_number (properties_of p k)) 0

abbrev pub traits_number : BlockRedstoneTraits → ℕ
traits_number r =
    bit r.supports 1 + bit r.weak 2 + bit r.strong 4 + bit r.drives 8 + bit r.blocks 16 + r.rise * 32

-- 0 x, 1 y, else z
unfoldable pub coordinate : Pos → ℕ → ℤ
coordinate q axis = cond (eqb axis 0) q.x (cond (eqb axis 1) q.y q.z)

-- the coordinate, or 2 where there is no position
abbrev pub place_coordinate : Option Pos → ℕ → ℤ
place_coordinate (Some q) axis = coordinate q axis
place_coordinate None axis = pos 2

-- a number above 6 is no facing
abbrev pub known_facing : ℕ → ℕ
known_facing n = cond (leb n 6) n 0

abbrev pub is_there : Option Pos → ℕ
is_there (Some q) = 1
is_there None = 0

abbrev pub side_of : Option (Pos × Pos) → Bool → Option Pos
side_of (Some (a, b)) first = cond first (Some a) (Some b)
side_of None first = None

-- the position functions by number
unfoldable pub port_of : Bytes → Pos → ℕ → Option Pos
port_of t q which =
    cond (eqb which 0) (repeater_input_pos t q)
    (cond (eqb which 1) (repeater_output_pos t q)
    (cond (eqb which 2) (comparator_input_pos t q)
    (cond (eqb which 3) (comparator_output_pos t q) (side_of (device_side_positions t q) (eqb which 4)))))
