-- The fresh state of a row: `RedstoneTickSimulator::new`.
-- Assumes nothing.
use Rattle.std.specs.Prelude.{cond, ◌&&◌, ◌∷◌, ◌++◌, ℕ, ◌*◌, ◌-◌, ◌^◌, replicate, eqb}
use Rattle.columns.specs.Column.{Bytes, Column}
use Rattle.columns.specs.Signal.{max_signal}
use Rattle.levels.specs.Numbers.{has_power, number}
use Rattle.blocks.specs.Kind.{RedstoneTorch, Repeater, Comparator, RedstoneLamp, CopperBulb}
use Rattle.world.specs.Rows.{kind_of, powered_of, is_powered, level_or}
use Rattle.states.specs.Row.{delay_of}

-- `DeviceOutputState::initially_lit`: "repeater from powered (missing false) ..; torch from powered (missing true); comparator
-- from level, else 15 or 0 by powered"
unfoldable pub fresh_device : Bytes → ℕ → ℕ
fresh_device t i =
    cond (eqb (kind_of t i) Repeater) (number (is_powered t i))
    (cond (eqb (kind_of t i) RedstoneTorch) (cond (eqb (powered_of t i) 1) 0 1)
    (cond (eqb (kind_of t i) Comparator) (level_or t i (cond (is_powered t i) max_signal 0)) 0))

-- "queue filled with it": as many bits as the delay
unfoldable pub fresh_queue : Bytes → ℕ → ℕ
fresh_queue t i = cond (eqb (kind_of t i) Repeater) (fresh_device t i * (2 ^ delay_of t i - 1)) 0

-- "lamps from settled power"; of a bulb "Fresh light comes from powered, missing false"
unfoldable pub fresh_light : Bytes → Column → Column → ℕ → ℕ
fresh_light t weak strong i =
    cond (eqb (kind_of t i) RedstoneLamp) (number (has_power weak strong i))
    (cond (eqb (kind_of t i) CopperBulb) (number (is_powered t i)) 0)

-- of a bulb "fresh byte 9 from settled power"
unfoldable pub fresh_had_power : Bytes → Column → Column → ℕ → ℕ
fresh_had_power t weak strong i = number (eqb (kind_of t i) CopperBulb && has_power weak strong i)

-- the sixteen bytes of row i
unfoldable pub fresh_row : Bytes → Column → Column → ℕ → Bytes
fresh_row t weak strong i =
    fresh_device t i ∷ fresh_queue t i ∷ fresh_light t weak strong i ∷ replicate 6 0 ++ fresh_had_power t weak strong i ∷ replicate 6 0
