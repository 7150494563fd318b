-- Laws: in an accepted table the functions of positions, at the positions of rows, answer what the functions of these rows do, of which
-- settling and ticking speak.
-- Assumes nothing.
use mathlib.Core.Path.{◌≡◌}
use Prim.Native.Nat.{ℕ, ◌<◌}
use Rattle.blocks.specs.Kind.{Repeater, Comparator}
use Rattle.columns.specs.Column.{Bytes}
use Rattle.world.specs.Rows.{rows, pos_of, kind_of}
use Rattle.refusals.specs.Accepted.{Table}
use Rattle.refusals.proofs.Accepted.{find_own}
use Rattle.connectivity.specs.Ports.{input_of, output_of, sides_of, of_kind, repeater_input_pos, repeater_output_pos, comparator_input_pos, comparator_output_pos, device_side_positions}
use Rattle.arms.specs.Arms.{arm_of, has_arm, resolved_wire_connection, wire_has_arm}
use Rattle.wire.specs.Transfer.{transfer_of, transmits, dust_transfer, dust_transmits}
use Rattle.wire.proofs.Found.{arm_found, has_arm_found, transfer_found, transmits_found}

module _ (t : Bytes) (a : Table t) where
  -- ---- arms and transfers

  module _ (p : Bytes) where
    pub arm_own : (i f : ℕ) → i < rows t → resolved_wire_connection p t (pos_of t i) f ≡ arm_of p t i f
    arm_own i f h = arm_found p t (pos_of t i) i (find_own t a i h) f

    pub has_arm_own : (i f : ℕ) → i < rows t → wire_has_arm p t (pos_of t i) f ≡ has_arm p t i f
    has_arm_own i f h = has_arm_found p t (pos_of t i) i (find_own t a i h) f

    module _ (j i : ℕ) (g : j < rows t) (h : i < rows t) where
      pub transfer_own : dust_transfer p t (pos_of t j) (pos_of t i) ≡ transfer_of p t j i
      transfer_own = transfer_found p t (pos_of t j) (pos_of t i) j i (find_own t a j g) (find_own t a i h)

      pub transmits_own : dust_transmits p t (pos_of t j) (pos_of t i) ≡ transmits p t j i
      transmits_own = transmits_found p t (pos_of t j) (pos_of t i) j i (find_own t a j g) (find_own t a i h)

  -- ---- ports

  module _ (i : ℕ) (h : i < rows t) where
    pub repeater_input_own : kind_of t i ≡ Repeater → repeater_input_pos t (pos_of t i) ≡ input_of t i
    unfolding repeater_input_pos of_kind
    repeater_input_own k = rw (find_own t a i h, k)

    pub repeater_output_own : kind_of t i ≡ Repeater → repeater_output_pos t (pos_of t i) ≡ output_of t i
    unfolding repeater_output_pos of_kind
    repeater_output_own k = rw (find_own t a i h, k)

    pub comparator_input_own : kind_of t i ≡ Comparator → comparator_input_pos t (pos_of t i) ≡ input_of t i
    unfolding comparator_input_pos of_kind
    comparator_input_own k = rw (find_own t a i h, k)

    pub comparator_output_own : kind_of t i ≡ Comparator → comparator_output_pos t (pos_of t i) ≡ output_of t i
    unfolding comparator_output_pos of_kind
    comparator_output_own k = rw (find_own t a i h, k)

    pub sides_own : device_side_positions t (pos_of t i) ≡ sides_of t i
    unfolding device_side_positions
    sides_own = rw (find_own t a i h)
