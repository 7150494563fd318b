-- Law: a switch changes nothing in the feeder list, of any table and any profile. Assumes nothing.
use mathlib.Core.Path.{◌≡◌}
use Prim.Native.Nat.{ℕ}
use native.Mathlib.Omega.{arith}
use Rattle.columns.specs.Column.{Bytes}
use Rattle.places.specs.declared.Pos.{Pos}
use Rattle.world.specs.Rows.{stored_arm}
use Rattle.wire.specs.Transfer.{transmits}
use Rattle.wire.proofs.Alike.{same_rows, same_stored, same_transmits}
use Rattle.switching.specs.Switch.{switched}
use Rattle.switching.proofs.Switched.{switched_other, switched_alike}
use Rattle.feeding.specs.Feeders.{feeder_list}
use Rattle.feeding.proofs.Listed.{list_same}

module _ (p t : Bytes) (q : Pos) (power : ℕ) where
  stored : (i f : ℕ) → stored_arm (switched t q power) i f ≡ stored_arm t i f
  stored i = same_stored (switched t q power) t i (λ b l m. switched_other t q power i b (omega arith) (λ e. omega arith))

  same : (j i : ℕ) → transmits p (switched t q power) j i ≡ transmits p t j i
  same = same_transmits (switched_alike t q power) stored p

  pub list_switched : feeder_list p (switched t q power) ≡ feeder_list p t
  list_switched = list_same p p (switched t q power) t (same_rows (switched_alike t q power)) same
