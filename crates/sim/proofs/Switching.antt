-- Laws of a switched table with a state: the state has the same device column, and a device column or a state that is valid stays valid.
-- Assumes nothing.
use mathlib.Core.Path.{◌≡◌, refl, sym, ◌∙◌}
use Prim.Native.Nat.{ℕ}
use native.Mathlib.Omega.{arith}
use Rattle.columns.specs.Column.{Bytes, Column}
use Rattle.places.specs.declared.Pos.{Pos}
use Rattle.world.specs.Rows.{rows}
use Rattle.wire.proofs.Alike.{same_rows, same_kind}
use Rattle.emitted.specs.Emitted.{IsValid}
use Rattle.electrical.proofs.Devices.{valid_devices, devices_valid}
use Rattle.states.specs.Row.{delay_of}
use Rattle.switching.specs.Switch.{switched}
use Rattle.switching.proofs.Switched.{switched_alike, switched_other}
use Rattle.updates.specs.State.{devices_of, IsValidState}
use Rattle.updates.proofs.States.{same_devices, same-state}

module _ (t : Bytes) (q : Pos) (power : ℕ) where
  pub switched_devices : (st : Bytes) → devices_of (switched t q power) st ≡ devices_of t st
  switched_devices = same_devices t (switched t q power) (same_rows (switched_alike t q power))

  pub switched_valid : (d : Column) → IsValid t d → IsValid (switched t q power) d
  switched_valid d h =
      let v = valid_devices t d h in
      let n : rows (switched t q power) ≡ rows t = same_rows (switched_alike t q power) in
      devices_valid (switched t q power) d
      (record { sized = v.sized ∙ sym n; good = λ i l. rw (same_kind (switched_alike t q power) i) (v.good i (rw n at l)); low = λ i l. v.low i (rw n at l) })

  switched_delay : (i : ℕ) → delay_of (switched t q power) i ≡ delay_of t i
  unfolding delay_of
  switched_delay i = rw (switched_other t q power i 17 (omega arith) (λ e. omega arith), switched_other t q power i 18 (omega arith) (λ e. omega arith)) refl

  pub switched_state : (st : Bytes) → IsValidState t st → IsValidState (switched t q power) st
  switched_state st h =
      let same = switched_alike t q power in
      same-state t (switched t q power) (same_rows same) (λ i _. same_kind same i) (λ i _. switched_delay i) st ∙ h
