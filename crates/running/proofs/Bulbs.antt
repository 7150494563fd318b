-- Document 02, Change 4: the light of a bulb over a tick, and its byte 9; and tables without bulbs. Assumes nothing.
use mathlib.Core.Path.{◌≡◌, refl, ap, sym, ◌∙◌}
use mathlib.Core.Bool.{Bool, true, false, ◌&&◌}
use Prim.Native.Nat.{ℕ, zero, suc, ◌*◌, ◌≤◌, ◌<◌}
use native.Mathlib.Omega.{arith}
use lib.ListN.{length, set, length-set}
use lib.Dec.{eqb}
use lib.Seq.{get_or-set_same, get_or-set_other}
use borrow.Author.Tests.{leb-true}
use Rattle.columns.specs.Column.{Bytes, concat_rows}
use Rattle.columns.proofs.Parts.{part_concat_rows}
use Rattle.columns.proofs.Truth.{and_true}
use Rattle.blocks.specs.Kind.{CopperBulb}
use Rattle.blocks.specs.Profile.{reads_block_power, properties_of}
use Rattle.blocks.proofs.Bulbs.{with_bulb, kind-properties}
use Rattle.world.specs.Rows.{rows, kind_of, is_powered}
use Rattle.traits.proofs.Profiles.{traits_with_bulb}
use Rattle.refusals.specs.Check.{IsAccepted}
use Rattle.refusals.proofs.Bulbs.{no_bulb}
use Rattle.levels.specs.Numbers.{has_power, number}
use Rattle.electrical.specs.Answer.{settled}
use Rattle.electrical.proofs.Bulbs.{settled_with_bulb}
use Rattle.states.specs.Row.{lit_of, had_power_of, good_light}
use Rattle.states.proofs.Parts.{parts}
use Rattle.fresh.specs.Fresh.{fresh_light, fresh_had_power, fresh_row}
use Rattle.fresh.proofs.FreshRows.{length_fresh}
use Rattle.lamp.specs.Step.{lamp_row}
use Rattle.bulb.specs.Step.{flipped, next_bulb_light, bulb_row}
use Rattle.devices.specs.Step.{device_row, light_row}
use Rattle.steps.proofs.Profiles.{same_device}
use Rattle.updates.specs.State.{sixteen, devices_of, IsValidState, fresh_devices, fresh_state}
use Rattle.updates.specs.Tick.{numbers_of, settled_of, with_devices, set_devices, set_lights, tick, ticks}
use Rattle.running.proofs.States.{row_length, next, device-row, tick_row, tick_devices}
use Rattle.running.proofs.Valid.{valid_state}

-- weak or strong power at row i, of what a state settles to
abbrev pub has_power_in : (p t st : Bytes) → ℕ → Bool
has_power_in p t st i = has_power (settled_of p t st).weak (settled_of p t st).strong i

-- ---- fresh: "Fresh light comes from powered, missing false; fresh byte 9 from settled power"

module _ (p t : Bytes) (i : ℕ) (h : i < rows t) (bulb : kind_of t i ≡ CopperBulb) where
  fresh-row : sixteen (fresh_state p t) i ≡ fresh_row t (settled p t (fresh_devices t)).weak (settled p t (fresh_devices t)).strong i
  unfolding fresh_state
  fresh-row =
      let s = settled p t (fresh_devices t) in
      part_concat_rows 16 (fresh_row t s.weak s.strong) (rows t) (λ k l. length_fresh t s.weak s.strong k) i h

  pub fresh-light : lit_of (sixteen (fresh_state p t) i) ≡ number (is_powered t i)
  unfolding fresh_row fresh_light
  fresh-light = ap lit_of fresh-row ∙ rw bulb refl

  pub fresh-had-power : had_power_of (sixteen (fresh_state p t) i) ≡ number (has_power (settled p t (fresh_devices t)).weak (settled p t (fresh_devices t)).strong i)
  unfolding fresh_row fresh_had_power
  fresh-had-power = ap had_power_of fresh-row ∙ rw bulb refl

-- ---- a tick

-- what bytes 2 and 9 hold once they are written
module _ (r : Bytes) (x y : ℕ) (h : length r ≡ 16) where
  written_light : lit_of (set (set r 2 x) 9 y) ≡ x
  written_light = get_or-set_other (set r 2 x) 9 2 y 0 (λ e. omega arith) ∙ get_or-set_same r 2 x 0 (omega arith)

  written_had_power : had_power_of (set (set r 2 x) 9 y) ≡ y
  written_had_power = get_or-set_same (set r 2 x) 9 y 0 (rw (length-set r 2 x) (omega arith))

module _ (p t st : Bytes) (long : length st ≡ rows t * 16) (i : ℕ) (h : i < rows t) (bulb : kind_of t i ≡ CopperBulb) where
  -- what the devices' step leaves of a bulb's row: all of it
  left_alone : sixteen (set_devices p t st) i ≡ sixteen st i
  unfolding device_row
  left_alone = device-row p t st long i h ∙ rw bulb refl

  -- the tick settles to what its columns hold
  same_power : has_power_in p t (tick p t st) i ≡ has_power (next p t st).weak (next p t st).strong i
  unfolding settled_of
  same_power = ap (λ d. has_power (settled p t d).weak (settled p t d).strong i) (tick_devices p t st long)

  -- bytes 2 and 9 of a bulb's row, and every other byte as it was
  pub tick_bulb : sixteen (tick p t st) i
      ≡ set (set (sixteen st i) 2 (next_bulb_light (has_power_in p t (tick p t st) i) (had_power_of (sixteen st i)) (lit_of (sixteen st i)))) 9 (number (has_power_in p t (tick p t st) i))
  unfolding light_row lamp_row bulb_row
  tick_bulb = tick_row p t st long i h ∙ rw (bulb, left_alone, same_power) refl

  -- "then byte 9 is written": "whether it had power after the last tick"
  pub tick_had_power : had_power_of (sixteen (tick p t st) i) ≡ number (has_power_in p t (tick p t st) i)
  tick_had_power = ap had_power_of tick_bulb ∙ written_had_power (sixteen st i) _ _ (row_length t st long i h)

  -- the light after the tick
  pub tick_light : lit_of (sixteen (tick p t st) i) ≡ next_bulb_light (has_power_in p t (tick p t st) i) (had_power_of (sixteen st i)) (lit_of (sixteen st i))
  tick_light = ap lit_of tick_bulb ∙ written_light (sixteen st i) _ _ (row_length t st long i h)

-- ---- "the light flips exactly if power is there and byte 9 is 0"

differs : (light : ℕ) → light ≤ 1 → ¬ (flipped light ≡ light)
differs zero h e = omega (arith, e)
differs (suc zero) h e = omega (arith, e)
differs (suc (suc n)) h e = omega arith

module _ (p t st : Bytes) (v : IsValidState t st) (i : ℕ) (h : i < rows t) (bulb : kind_of t i ≡ CopperBulb) where
  low : lit_of (sixteen st i) ≤ 1
  unfolding good_light
  low = leb-true _ _ (and_true _ _ (rw bulb at (parts t i (sixteen st i) ((valid_state t st v).good i h)).light)).0

  -- to the other light, where both hold,
  pub flips : has_power_in p t (tick p t st) i ≡ true → had_power_of (sixteen st i) ≡ 0
      → (lit_of (sixteen (tick p t st) i) ≡ flipped (lit_of (sixteen st i))) × (¬ (lit_of (sixteen (tick p t st) i) ≡ lit_of (sixteen st i)))
  unfolding next_bulb_light
  flips power none =
      let other : lit_of (sixteen (tick p t st) i) ≡ flipped (lit_of (sixteen st i)) =
      tick_light p t st (valid_state t st v).sized i h bulb ∙ rw (power, none) refl in
      (other, λ e. differs (lit_of (sixteen st i)) low (sym other ∙ e))

  -- and where one does not, it stays
  pub stays : (has_power_in p t (tick p t st) i && eqb (had_power_of (sixteen st i)) 0) ≡ false → lit_of (sixteen (tick p t st) i) ≡ lit_of (sixteen st i)
  unfolding next_bulb_light
  stays none = tick_light p t st (valid_state t st v).sized i h bulb ∙ rw none refl

-- ---- "On tables without bulbs equality with the Rust stays as it was": a table that 13 bytes accept, under these and a fourteenth

module _ (p t : Bytes) (long : length p ≡ 13) (h : IsAccepted p t) (b : ℕ) where
  pub fresh_with_bulb : fresh_state (with_bulb p b) t ≡ fresh_state p t
  unfolding fresh_state
  fresh_with_bulb = rw (settled_with_bulb p t long h b (fresh_devices t)) refl

  reads : (i : ℕ) → reads_block_power (with_bulb p b) (kind_of t i) ≡ reads_block_power p (kind_of t i)
  unfolding properties_of
  reads i = ap (λ r. r.repeater_reads_block_power) (kind-properties p b long (kind_of t i) (no_bulb p t long h i))

  settled-of : (st : Bytes) → settled_of (with_bulb p b) t st ≡ settled_of p t st
  unfolding settled_of
  settled-of st = settled_with_bulb p t long h b (devices_of t st)

  set-devices : (st : Bytes) → set_devices (with_bulb p b) t st ≡ set_devices p t st
  unfolding set_devices with_devices
  set-devices st =
      rw (settled-of st)
      (λ x. concat_rows (rows t) (λ i. same_device (with_bulb p b) p t (traits_with_bulb p t long (no_bulb p t long h) b) reads (devices_of t st) (numbers_of (settled_of p t st)) i (sixteen st i) x))

  pub tick_with_bulb : (st : Bytes) → tick (with_bulb p b) t st ≡ tick p t st
  unfolding tick set_lights
  tick_with_bulb st = rw (set-devices st, settled-of (set_devices p t st)) refl

  pub ticks_with_bulb : (n : ℕ) (st : Bytes) → ticks n (with_bulb p b) t st ≡ ticks n p t st
  unfolding ticks
  ticks_with_bulb zero st = refl
  ticks_with_bulb (suc n) st = rw (tick_with_bulb st) (ticks_with_bulb n (tick p t st))
