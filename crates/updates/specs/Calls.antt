-- What fresh, tick and switch answer and write.
-- Assumes nothing.
use Rattle.std.specs.Prelude.{◌≡◌, ◌&&◌, ℕ, ◌+◌, ◌*◌, length, eqb, leb}
use Rattle.columns.specs.Column.{Bytes, Column}
use Rattle.places.specs.declared.Pos.{Pos}
use Rattle.world.specs.Rows.{rows}
use Rattle.refusals.specs.Check.{Checked, or_else, also, check_input, answer_of, written}
use Rattle.electrical.specs.Answer.{rounds_of, settled, good_columns, Columns}
use Rattle.switching.specs.Switch.{switched}
use Rattle.updates.specs.State.{devices_of, check_state, fresh_devices, fresh_state}
use Rattle.updates.specs.Tick.{ticks}

-- ---- fresh

-- 1 to 5, 10, and 7: "an output column, or fresh's state, not one entry per row"
unfoldable pub check_fresh : Bytes → Bytes → ℕ → ℕ → ℕ → ℕ → Checked
check_fresh p t state signal weak strong = also (check_input p t) 7 (eqb state (rows t * 16) && good_columns t signal weak strong)

pub record Fresh (p t st st' : Bytes) (signal weak strong signal' weak' strong' : Column) (r : ℕ) : Type 0 where
  pub answer : r ≡ answer_of (check_fresh p t (length st) (length signal) (length weak) (length strong)) (rounds_of p t (fresh_devices t))
  pub state : st' ≡ written (check_fresh p t (length st) (length signal) (length weak) (length strong)) st (fresh_state p t)
  pub columns :
      Columns (check_fresh p t (length st) (length signal) (length weak) (length strong)) (settled p t (fresh_devices t))
      signal weak strong signal' weak' strong'

-- ---- tick and switch: 1 to 5, 10 on the rows, 6, 10 on the state, and 7, of a call with a state

unfoldable pub check_step : Bytes → Bytes → Bytes → ℕ → ℕ → ℕ → Checked
check_step p t st signal weak strong = or_else (check_input p t) (also (check_state t st) 7 (good_columns t signal weak strong))

-- and 9 clock end: "tick plus asked ticks above 4,294,967,295"
unfoldable pub check_tick : Bytes → Bytes → Bytes → ℕ → ℕ → ℕ → ℕ → ℕ → Checked
check_tick p t st now asked signal weak strong = also (check_step p t st signal weak strong) 9 (leb (now + asked) 4294967295)

pub record Ticks (p t st st' : Bytes) (now asked : ℕ) (signal weak strong signal' weak' strong' : Column) (r : ℕ) : Type 0 where
  pub answer :
      r ≡ answer_of (check_tick p t st now asked (length signal) (length weak) (length strong)) (rounds_of p t (devices_of t (ticks asked p t st)))
  pub state : st' ≡ written (check_tick p t st now asked (length signal) (length weak) (length strong)) st (ticks asked p t st)
  pub columns :
      Columns (check_tick p t st now asked (length signal) (length weak) (length strong)) (settled p t (devices_of t (ticks asked p t st)))
      signal weak strong signal' weak' strong'

pub record Switches (p t t' st st' : Bytes) (q : Pos) (power : ℕ) (signal weak strong signal' weak' strong' : Column) (r : ℕ) : Type 0 where
  pub answer :
      r ≡ answer_of (check_step p t st (length signal) (length weak) (length strong)) (rounds_of p (switched t q power) (devices_of t st))
  pub table : t' ≡ written (check_step p t st (length signal) (length weak) (length strong)) t (switched t q power)
  -- no byte of the state changes, so neither of a bulb's: "A switch changes neither"
  pub state : st' ≡ st
  pub columns :
      Columns (check_step p t st (length signal) (length weak) (length strong)) (settled p (switched t q power) (devices_of t st))
      signal weak strong signal' weak' strong'
