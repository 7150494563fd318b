-- The places by a row, and what a row of a class does towards each.
-- Assumes nothing.
use Rattle.std.specs.Prelude.{Bool, true, cond, ◌&&◌, ◌||◌, ℕ, ◌+◌, eqb, ltb}
use Rattle.blocks.specs.Kind.{RedstoneTorch, RedstoneBlock, is_dust, is_switch, is_source, is_diode}
use Rattle.places.specs.Places.{opposite}
use Rattle.classes.specs.Class.{charges_above_in, kind_in, facing_in, has_arm_in}

-- the places by a row: 0 to 3 beside it along the facings 1 to 4, 4 above, 5 below, 6 its support
abbrev pub places : ℕ
places = 7

abbrev pub is_beside : ℕ → Bool
is_beside k = ltb k 4

abbrev pub Above : ℕ
Above = 4

abbrev pub Below : ℕ
Below = 5

-- ---- what a row of the class c does towards its place k

-- the row is a repeater or comparator whose output is there
abbrev pub outputs_in : ℕ → ℕ → Bool
outputs_in c k = is_beside k && (is_diode (kind_in c) && eqb (facing_in c) (k + 1))

-- what it emits arrives there as strong power
abbrev pub charges_in : ℕ → ℕ → Bool
charges_in c k =
    cond (ltb k 6)
    (eqb (kind_in c) RedstoneBlock || (outputs_in c k || (eqb k Above && (eqb (kind_in c) RedstoneTorch && charges_above_in c))))
    (is_switch (kind_in c))

-- the dust there has what it emits for its direct level, where the two touch
abbrev pub feeds_in : ℕ → ℕ → Bool
feeds_in c k = is_source (kind_in c) || outputs_in c k

-- its dust reaches the block there
abbrev pub leads_in : ℕ → ℕ → Bool
leads_in c k = is_dust (kind_in c) && cond (is_beside k) (has_arm_in c (k + 1)) (eqb k Below)

-- it is dust, and touches the row whose place k it is
abbrev pub touched_in : ℕ → ℕ → Bool
touched_in c k = is_dust (kind_in c) && cond (is_beside k) (has_arm_in c (opposite (k + 1))) true
