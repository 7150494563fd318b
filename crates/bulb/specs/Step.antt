-- What a tick does to the sixteen bytes of a bulb: document 02, Change 4.
-- Assumes nothing.
use Rattle.std.specs.Prelude.{Bool, cond, ◌&&◌, ℕ, set, eqb}
use Rattle.columns.specs.Column.{Bytes, Column}
use Rattle.blocks.specs.Kind.{CopperBulb}
use Rattle.world.specs.Rows.{kind_of}
use Rattle.states.specs.Row.{lit_of, had_power_of}
use Rattle.levels.specs.Numbers.{has_power, number}

-- unlit to lit, and lit to unlit
abbrev pub flipped : ℕ → ℕ
flipped light = number (eqb light 0)

-- "the light flips exactly if power is there and byte 9 is 0"
unfoldable pub next_bulb_light : Bool → ℕ → ℕ → ℕ
next_bulb_light power hadPower light = cond (power && eqb hadPower 0) (flipped light) light

-- row i's sixteen bytes r once its bulb is set, from the new settled power: the light, "then byte 9 is written"
unfoldable pub bulb_row : Bytes → Column → Column → ℕ → Bytes → Bytes
bulb_row t weak strong i r =
    cond (eqb (kind_of t i) CopperBulb)
    (set (set r 2 (next_bulb_light (has_power weak strong i) (had_power_of r) (lit_of r))) 9 (number (has_power weak strong i)))
    r
