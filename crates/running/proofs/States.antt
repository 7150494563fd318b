-- Laws of the rows of a state: what a tick makes of each, that lamps and bulbs leave the devices alone, and that a candidate stays one.
-- Assumes nothing.
use mathlib.Core.Path.{◌≡◌, ap, ◌∙◌}
use Prim.Native.Nat.{ℕ, zero, suc, ◌*◌, ◌≤◌, ◌<◌}
use native.Mathlib.Nat.{le_refl, le_trans}
use native.Mathlib.Omega.{arith}
use lib.ListN.{length}
use Rattle.columns.specs.Column.{Bytes, Column}
use Rattle.columns.proofs.Columns.{same_rule}
use Rattle.columns.proofs.Parts.{length_part, length_concat_rows, part_concat_rows}
use Rattle.network.specs.Network.{State}
use Rattle.world.specs.Rows.{rows}
use Rattle.levels.specs.Numbers.{Numbers}
use Rattle.states.specs.Row.{device_of, candidate_of}
use Rattle.devices.specs.Step.{device_row, light_row}
use Rattle.steps.proofs.Rows.{length_device, length_light, light_device, light_candidate, device_candidate}
use Rattle.updates.specs.State.{sixteen, devices_of}
use Rattle.updates.specs.Tick.{with_devices, with_lights, numbers_of, settled_of, set_devices, set_lights, tick, ticks}

-- ---- the rows of a tick

module _ (t st : Bytes) (long : length st ≡ rows t * 16) where
  -- a row has sixteen bytes
  pub row_length : (i : ℕ) → i < rows t → length (sixteen st i) ≡ 16
  row_length i h = length_part 16 st i (omega arith)

  -- the rows and the lengths of a state whose devices are set: "sets all devices from the old settled state"
  module _ (p : Bytes) (d : Column) (s : Numbers) where
    pub devices_row : (i : ℕ) → i < rows t → sixteen (with_devices p t d s st) i ≡ device_row p t d s i (sixteen st i)
    unfolding with_devices
    devices_row = part_concat_rows 16 _ (rows t) (λ i h. length_device p t _ s i (sixteen st i) ∙ row_length i h)

    pub length_devices : length (with_devices p t d s st) ≡ rows t * 16
    unfolding with_devices
    length_devices = length_concat_rows 16 _ (rows t) (λ i h. length_device p t _ s i (sixteen st i) ∙ row_length i h)

  -- and of one whose lamps and bulbs are
  module _ (weak strong : Column) where
    light_lengths : (i : ℕ) → i < rows t → length (light_row t weak strong i (sixteen st i)) ≡ 16
    light_lengths i h = length_light t weak strong i (sixteen st i) ∙ row_length i h

    pub lights_row : (i : ℕ) → i < rows t → sixteen (with_lights t weak strong st) i ≡ light_row t weak strong i (sixteen st i)
    unfolding with_lights
    lights_row = part_concat_rows 16 _ (rows t) light_lengths

    pub length_lights : length (with_lights t weak strong st) ≡ rows t * 16
    unfolding with_lights
    length_lights = length_concat_rows 16 _ (rows t) light_lengths

    -- they leave the devices alone
    pub lights_devices : devices_of t (with_lights t weak strong st) ≡ devices_of t st
    unfolding devices_of
    lights_devices =
        same_rule (rows t) (λ i. device_of (sixteen (with_lights t weak strong st) i)) (λ i. device_of (sixteen st i))
        (λ i h. ap device_of (lights_row i h) ∙ light_device t weak strong i (sixteen st i))

-- ---- a tick

-- what a state settles to once its devices are set
abbrev pub next : (p t st : Bytes) → State
next p t st = settled_of p t (set_devices p t st)

module _ (p t st : Bytes) (long : length st ≡ rows t * 16) where
  pub length_set_devices : length (set_devices p t st) ≡ rows t * 16
  unfolding set_devices
  length_set_devices = length_devices t st long p (devices_of t st) (numbers_of (settled_of p t st))

  pub length_tick : length (tick p t st) ≡ rows t * 16
  unfolding tick set_lights
  length_tick = length_lights t (set_devices p t st) length_set_devices (next p t st).weak (next p t st).strong

  -- after a tick the devices are those that were settled with
  pub tick_devices : devices_of t (tick p t st) ≡ devices_of t (set_devices p t st)
  unfolding tick set_lights
  tick_devices = lights_devices t (set_devices p t st) length_set_devices (next p t st).weak (next p t st).strong

  module _ (i : ℕ) (h : i < rows t) where
    -- row i once the devices are set, and after the tick
    pub device-row : sixteen (set_devices p t st) i ≡ device_row p t (devices_of t st) (numbers_of (settled_of p t st)) i (sixteen st i)
    unfolding set_devices
    device-row = devices_row t st long p (devices_of t st) (numbers_of (settled_of p t st)) i h

    pub tick_row : sixteen (tick p t st) i ≡ light_row t (next p t st).weak (next p t st).strong i (sixteen (set_devices p t st) i)
    unfolding tick set_lights
    tick_row = lights_row t (set_devices p t st) length_set_devices (next p t st).weak (next p t st).strong i h

    -- the candidate byte of a row never falls
    pub candidate_stays : candidate_of (sixteen st i) ≤ candidate_of (sixteen (tick p t st) i)
    candidate_stays =
        rw (tick_row, light_candidate t (next p t st).weak (next p t st).strong i (sixteen (set_devices p t st) i), device-row)
        (device_candidate p t (devices_of t st) (numbers_of (settled_of p t st)) i (sixteen st i) (omega (arith, row_length t st long i h)))

module _ (p t : Bytes) where
  pub length_ticks : (n : ℕ) (st : Bytes) → length st ≡ rows t * 16 → length (ticks n p t st) ≡ rows t * 16
  unfolding ticks
  length_ticks zero st h = h
  length_ticks (suc n) st h = length_ticks n (tick p t st) (length_tick p t st h)

  -- "candidate at 8, for ever": after any number of ticks
  pub candidate_for_ever : (n : ℕ) (st : Bytes) → length st ≡ rows t * 16 → (i : ℕ) → i < rows t
      → candidate_of (sixteen st i) ≤ candidate_of (sixteen (ticks n p t st) i)
  unfolding ticks
  candidate_for_ever zero st h i l = le_refl _
  candidate_for_ever (suc n) st h i l =
      le_trans (candidate_stays p t st h i l) (candidate_for_ever n (tick p t st) (length_tick p t st h) i l)
