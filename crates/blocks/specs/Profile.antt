-- The profile: "13 bytes, one per kind from 0, sums of: 1 supports components, 2 receives weak power, 4 receives strong power,
-- 8 repeater reads block power, 16 strong power drives dust"; "for the torch only" 32, by which a lit torch charges the block above; and it
-- "may have 14 bytes", the last of them the bulb's.
-- Assumes nothing.
use Rattle.std.specs.Prelude.{Bool, [], ◌∷◌, ℕ, ◌/◌, ◌%◌, get_or, eqb}
use Rattle.columns.specs.Column.{Bytes}
use Rattle.blocks.specs.Kind.{RedstoneTorch}
use Rattle.blocks.specs.declared.BlockProperties.{BlockProperties}

-- the sum that the profile has for the kind holds the value
unfoldable pub says : ℕ → Bytes → ℕ → Bool
says value profile kind = eqb (get_or profile kind 0 / value % 2) 1

abbrev pub supports_components : Bytes → ℕ → Bool
supports_components = says 1

abbrev pub receives_weak : Bytes → ℕ → Bool
receives_weak = says 2

abbrev pub receives_strong : Bytes → ℕ → Bool
receives_strong = says 4

abbrev pub reads_block_power : Bytes → ℕ → Bool
reads_block_power = says 8

abbrev pub drives_dust : Bytes → ℕ → Bool
drives_dust = says 16

-- "Profile value 32 is added for the torch only": a lit torch charges the block above
abbrev pub torch_charges_above : Bytes → Bool
torch_charges_above profile = says 32 profile RedstoneTorch

-- `BlockKind::properties`, of the profile that the call has
unfoldable pub properties_of : Bytes → ℕ → BlockProperties
properties_of profile kind =
    record {
      supports_components = supports_components profile kind;
      receives_weak_power = receives_weak profile kind;
      receives_strong_power = receives_strong profile kind;
      repeater_reads_block_power = reads_block_power profile kind;
      strong_power_drives_dust = drives_dust profile kind;
    }

-- "The bench profile is ours: Solid and RedstoneLamp 31, Transparent and RedstoneBlock 1, the rest 0"
abbrev pub bench_profile : Bytes
bench_profile = 0 ∷ 31 ∷ 1 ∷ 0 ∷ 0 ∷ 0 ∷ 0 ∷ 0 ∷ 0 ∷ 0 ∷ 31 ∷ 1 ∷ 0 ∷ []
