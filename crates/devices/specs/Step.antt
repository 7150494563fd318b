-- What a tick does to the sixteen bytes of a row: to its device, and to its light.
-- Assumes nothing.
use Rattle.std.specs.Prelude.{cond, ℕ, set, eqb}
use Rattle.columns.specs.Column.{Bytes, Column}
use Rattle.blocks.specs.Kind.{RedstoneTorch, Repeater, Comparator}
use Rattle.world.specs.Rows.{kind_of}
use Rattle.levels.specs.Numbers.{Numbers}
use Rattle.repeater.specs.Step.{repeater_row}
use Rattle.torch.specs.Step.{torch_row}
use Rattle.comparator.specs.Step.{next_comparator}
use Rattle.lamp.specs.Step.{lamp_row}
use Rattle.bulb.specs.Step.{bulb_row}

-- row i's sixteen bytes r once its device is set, from the old device column d and the old settled numbers s
unfoldable pub device_row : Bytes → Bytes → Column → Numbers → ℕ → Bytes → Bytes
device_row p t d s i r =
    cond (eqb (kind_of t i) Repeater) (repeater_row p t d s i r)
    (cond (eqb (kind_of t i) RedstoneTorch) (torch_row p t s.weak s.strong i r)
    (cond (eqb (kind_of t i) Comparator) (set r 0 (next_comparator t s i)) r))

-- row i's sixteen bytes r once its lamp or bulb is set, from the new settled power: each of the two leaves a row of another kind as it is
unfoldable pub light_row : Bytes → Column → Column → ℕ → Bytes → Bytes
light_row t weak strong i r = bulb_row t weak strong i (lamp_row t weak strong i r)
