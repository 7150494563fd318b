-- A tick: "sets all devices from the old settled state, settles, then does lamps", and bulbs with them.
-- Assumes nothing.
use Rattle.std.specs.Prelude.{ℕ, zero, suc}
use Rattle.columns.specs.Column.{Bytes, Column, concat_rows}
use Rattle.network.specs.Network.{State}
use Rattle.world.specs.Rows.{rows}
use Rattle.electrical.specs.Answer.{settled}
use Rattle.levels.specs.Numbers.{Numbers, numbers}
use Rattle.devices.specs.Step.{device_row, light_row}
use Rattle.updates.specs.State.{sixteen, devices_of}

-- every device set, from the device column d and the settled numbers s
unfoldable pub with_devices : Bytes → Bytes → Column → Numbers → Bytes → Bytes
with_devices p t d s st = concat_rows (rows t) (λ i. device_row p t d s i (sixteen st i))

-- every lamp and bulb set, from the settled power
unfoldable pub with_lights : Bytes → Column → Column → Bytes → Bytes
with_lights t weak strong st = concat_rows (rows t) (λ i. light_row t weak strong i (sixteen st i))

-- the three columns of a settled state: no step reads which rows the power map holds
abbrev pub numbers_of : State → Numbers
numbers_of s = numbers s.signal s.weak s.strong

-- what a state settles to
unfoldable pub settled_of : Bytes → Bytes → Bytes → State
settled_of p t st = settled p t (devices_of t st)

-- "sets all devices from the old settled state"
unfoldable pub set_devices : Bytes → Bytes → Bytes → Bytes
set_devices p t st =
    let d = devices_of t st in
    let s = settled_of p t st in
    with_devices p t d (numbers_of s) st

-- "settles, then does lamps"; and bulbs: "After a tick settles, the light flips"
unfoldable pub set_lights : Bytes → Bytes → Bytes → Bytes
set_lights p t st = let s = settled_of p t st in with_lights t s.weak s.strong st

unfoldable pub tick : Bytes → Bytes → Bytes → Bytes
tick p t st = set_lights p t (set_devices p t st)

-- "Many ticks equal that many single ticks; none only settles"
unfoldable pub ticks : ℕ → Bytes → Bytes → Bytes → Bytes
ticks zero p t st = st
ticks (suc n) p t st = ticks n p t (tick p t st)
