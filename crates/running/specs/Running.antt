-- What stands in the buffers of a call that passed its checks, while it runs.
-- Assumes nothing.
use Rattle.std.specs.Prelude.{◌≡◌, ◌*◌, length}
use Rattle.columns.specs.Column.{Bytes, Column}
use Rattle.world.specs.Rows.{rows}
use Rattle.refusals.specs.Check.{IsAccepted}
use Rattle.emitted.specs.Emitted.{IsValid}
use Rattle.electrical.specs.Answer.{settled}
use Rattle.updates.specs.State.{devices_of}

-- One entry a row of the table t in the device column and in the three output columns.
pub record ColumnLengths (t : Bytes) (d signal weak strong : Column) : Type 0 where
  pub device_rows : length d ≡ rows t
  pub signal_rows : length signal ≡ rows t
  pub weak_rows : length weak ≡ rows t
  pub strong_rows : length strong ≡ rows t

-- The table is accepted, and the state st has sixteen bytes a row, with valid devices.
pub record Ready (p t st : Bytes) : Type 0 where
  pub accepted : IsAccepted p t
  pub long : length st ≡ rows t * 16
  pub valid : IsValid t (devices_of t st)

-- The output columns hold what the devices d settle to.
pub record HoldsSettled (p t : Bytes) (d signal weak strong : Column) : Type 0 where
  pub signals : signal ≡ (settled p t d).signal
  pub weaks : weak ≡ (settled p t d).weak
  pub strongs : strong ≡ (settled p t d).strong

-- The device column is that of the state st, and the output columns hold what it settles to.
pub record Settled (p t st : Bytes) (d signal weak strong : Column) : Type 0 where
  pub devices : d ≡ devices_of t st
  pub holds : HoldsSettled p t (devices_of t st) signal weak strong
