-- The state of a simulation: sixteen bytes a row, its device column, which states are valid, and the fresh one. What stands in
-- quotation marks is document 01's or, of number 10, document 02's, Change 5.
-- Assumes nothing.
use Rattle.std.specs.Prelude.{◌≡◌, Bool, not, ℕ, ◌*◌, length, eqb}
use Rattle.columns.specs.Column.{Bytes, Column, tabulate, part, concat_rows}
use Rattle.world.specs.Rows.{rows}
use Rattle.refusals.specs.Check.{Checked, accepted, check_values}
use Rattle.electrical.specs.Answer.{settled}
use Rattle.states.specs.Row.{device_of, good_state}
use Rattle.fresh.specs.Fresh.{fresh_device, fresh_row}

-- the sixteen bytes of row i
abbrev pub sixteen : Bytes → ℕ → Bytes
sixteen st i = part 16 st i

-- the device byte of row i
abbrev pub device_in : Bytes → ℕ → ℕ
device_in st i = device_of (sixteen st i)

-- the device column of a state
unfoldable pub devices_of : Bytes → Bytes → Column
devices_of t st = tabulate (rows t) (device_in st)

-- ---- valid states

abbrev pub is_bad_state : Bytes → Bytes → ℕ → Bool
is_bad_state t st i = not (good_state t i (sixteen st i))

-- 6 bad state: "state of wrong length or value"; 10 overdriven: "Device bytes above 15"
unfoldable pub check_state : Bytes → Bytes → Checked
check_state t st = check_values (eqb (length st) (rows t * 16)) (is_bad_state t st) (device_in st) (rows t)

-- no refusal falls on the state
abbrev pub IsValidState : Bytes → Bytes → Type 0
IsValidState t st = check_state t st ≡ accepted

-- ---- the fresh state: `RedstoneTickSimulator::new`

unfoldable pub fresh_devices : Bytes → Column
fresh_devices t = tabulate (rows t) (fresh_device t)

unfoldable pub fresh_state : Bytes → Bytes → Bytes
fresh_state p t = let s = settled p t (fresh_devices t) in concat_rows (rows t) (fresh_row t s.weak s.strong)
