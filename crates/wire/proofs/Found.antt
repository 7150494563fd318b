-- Laws: where rows stand at two positions, the rule between the positions is the rule between the rows; and an arm at a position is that
-- of the row.
-- Assumes nothing.
use mathlib.Core.Path.{◌≡◌, ap}
use Prim.Native.Nat.{ℕ}
use Rattle.columns.specs.Column.{Bytes}
use Rattle.columns.specs.declared.Found.TheVariants.{At}
use Rattle.places.specs.declared.Pos.{Pos}
use Rattle.world.specs.Find.{find}
use Rattle.arms.specs.Arms.{arm_of, has_arm, resolved_wire_connection, wire_has_arm}
use Rattle.wire.specs.Transfer.{transfer_of, is_transfer, transmits_by, transmits, dust_transfer, dust_transmits}

module _ (p t : Bytes) where
  module _ (q : Pos) (i : ℕ) (stands : find t q ≡ At i) (f : ℕ) where
    pub arm_found : resolved_wire_connection p t q f ≡ arm_of p t i f
    unfolding resolved_wire_connection
    arm_found = rw stands

    pub has_arm_found : wire_has_arm p t q f ≡ has_arm p t i f
    unfolding wire_has_arm has_arm
    has_arm_found = rw arm_found

  module _ (source sink : Pos) (j i : ℕ) (from : find t source ≡ At j) (to : find t sink ≡ At i) where
    pub transfer_found : dust_transfer p t source sink ≡ transfer_of p t j i
    unfolding dust_transfer
    transfer_found = rw (from, to)

    pub transmits_found : dust_transmits p t source sink ≡ transmits p t j i
    unfolding dust_transmits transmits_by
    transmits_found = ap is_transfer transfer_found
