-- Document 02, Change 5, of a row: where no settled number is above 15, no device byte is above it after a device's step.
-- Assumes nothing.
use mathlib.Core.Path.{◌≡◌}
use mathlib.Core.Logic.{by_cases}
use mathlib.Core.Bool.{Bool, true, false, cond}
use Prim.Native.Nat.{ℕ, ◌≤◌, zero-le}
use native.Mathlib.Nat.{le_refl, le_trans}
use native.Mathlib.Decide.{ℕ_discrete}
use native.Mathlib.Omega.{arith}
use lib.ListN.{length}
use lib.Seq.{get_or-set_same}
use lib.Dec.{leb}
use Rattle.columns.specs.declared.Found.{Found}
use Rattle.columns.specs.declared.Found.TheVariants.{At, Nothing}
use Rattle.columns.specs.Column.{Bytes, Column}
use Rattle.columns.specs.First.{on_found}
use Rattle.columns.specs.Signal.{max_signal}
use Rattle.blocks.specs.Kind.{Comparator}
use Rattle.world.specs.Rows.{kind_of, is_subtract}
use Rattle.world.specs.Find.{find_at}
use Rattle.connectivity.specs.Ports.{input_of}
use Rattle.emitted.proofs.Devices.{other_low}
use Rattle.levels.specs.Numbers.{Numbers, electrical_level}
use Rattle.states.specs.Row.{device_of}
use Rattle.states.proofs.Parts.{Parts}
use Rattle.comparator.specs.Step.{compared, next_comparator}
use Rattle.devices.specs.Step.{device_row}
use Rattle.steps.proofs.Valid.{device_good}

-- a comparator gives no more than its rear
compared_low : (subtract : Bool) (rear side : ℕ) → compared subtract rear side ≤ rear
unfolding compared
compared_low true rear side = omega arith
compared_low false rear side = go (leb side rear)
  where
    go : (b : Bool) → cond b rear 0 ≤ rear
    go true = le_refl rear
    go false = zero-le

module _ (t : Bytes) (s : Numbers) (low : (j : ℕ) → electrical_level s j ≤ max_signal) (i : ℕ) where
  rear_low : (f : Found) → on_found (electrical_level s) 0 f ≤ max_signal
  rear_low (At j) = low j
  rear_low Nothing = zero-le

  next_low : next_comparator t s i ≤ max_signal
  unfolding next_comparator
  next_low = le_trans (compared_low (is_subtract t i) _ _) (rear_low (find_at t (input_of t i)))

  module _ (p : Bytes) (d : Column) (r : Bytes) (h : length r ≡ 16) where
    of_comparator : kind_of t i ≡ Comparator → device_of (device_row p t d s i r) ≤ max_signal
    unfolding device_row
    of_comparator k = rw (k, get_or-set_same r 0 (next_comparator t s i) 0 (omega arith)) next_low

    -- a device's step, of a row within the layout
    pub device_low : Parts t i r → device_of (device_row p t d s i r) ≤ max_signal
    device_low v =
        by_cases (ℕ_discrete (kind_of t i) Comparator) of_comparator
        (λ n. omega (arith, other_low (kind_of t i) (device_of (device_row p t d s i r)) n (device_good p t d s i r h v).device))
