-- What a tick does to the sixteen bytes of a lamp.
-- Assumes nothing.
use Rattle.std.specs.Prelude.{Bool, cond, ◌||◌, ℕ, ◌-◌, set, eqb}
use Rattle.columns.specs.Column.{Bytes, Column}
use Rattle.blocks.specs.Kind.{RedstoneLamp}
use Rattle.world.specs.Rows.{kind_of}
use Rattle.states.specs.Row.{lit_of, left_of}
use Rattle.levels.specs.Numbers.{has_power}

-- "power lights one"; "1 to 0 and out"
unfoldable pub next_lit : Bool → ℕ → ℕ → ℕ
next_lit power lit left = cond power 1 (cond (eqb left 1) 0 lit)

-- "zeroes byte 3; without it a lit lamp's byte 3 goes 0 to 2, 2 to 1, 1 to 0"
unfoldable pub next_left : Bool → ℕ → ℕ → ℕ
next_left power lit left = cond (power || eqb lit 0) 0 (cond (eqb left 0) 2 (left - 1))

-- row i's sixteen bytes r once its lamp is set, from the new settled power
unfoldable pub lamp_row : Bytes → Column → Column → ℕ → Bytes → Bytes
lamp_row t weak strong i r =
    cond (eqb (kind_of t i) RedstoneLamp)
    (set (set r 2 (next_lit (has_power weak strong i) (lit_of r) (left_of r))) 3 (next_left (has_power weak strong i) (lit_of r) (left_of r)))
    r
