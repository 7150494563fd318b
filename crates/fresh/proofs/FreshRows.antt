-- Laws of a fresh row: its length, that it is within the layout, and that it is not overdriven.
-- Assumes nothing.
use mathlib.Core.Path.{◌≡◌, refl}
use mathlib.Core.Logic.{by_cases}
use mathlib.Core.Bool.{Bool, true, false, cond, ◌&&◌, ◌||◌}
use Prim.Native.Nat.{ℕ, suc, ◌*◌, ◌-◌, ◌%◌, ◌^◌, ◌≤◌}
use native.Mathlib.Nat.{le_refl, pow-suc}
use native.Mathlib.Decide.{ℕ_discrete}
use native.Mathlib.Omega.{arith}
use lib.ListN.{length}
use lib.Dec.{eqb, leb, ltb}
use lib.Pow.{pow_pos}
use borrow.Author.Tests.{eq-eqb, ne_eqb, lt-ltb}
use Rattle.columns.specs.Column.{Bytes, Column}
use Rattle.columns.specs.Signal.{max_signal}
use Rattle.blocks.specs.Kind.{RedstoneTorch, Repeater, Comparator, RedstoneLamp, CopperBulb}
use Rattle.world.specs.Rows.{byte_of, kind_of, powered_of, is_powered, level_or}
use Rattle.emitted.specs.Emitted.{good_device}
use Rattle.emitted.proofs.Devices.{other_low}
use Rattle.states.specs.Row.{device_of, delay_of, bits_set, is_candidate, good_queue, good_light, good_torch, good_had_power, good_state}
use Rattle.levels.specs.Numbers.{has_power, number}
use Rattle.fresh.specs.Fresh.{fresh_device, fresh_queue, fresh_light, fresh_had_power, fresh_row}
use Rattle.states.proofs.Powers.{delay_range}
use Rattle.states.proofs.Parts.{whole}

pub length_fresh : (t : Bytes) (weak strong : Column) (i : ℕ) → length (fresh_row t weak strong i) ≡ 16
unfolding fresh_row
length_fresh t weak strong i = refl

-- ---- it is within the layout

-- a choice of 1 or 0 is at most 1
one_or_none : (b : Bool) → leb (cond b 1 0) 1 ≡ true
one_or_none true = refl
one_or_none false = refl

none_or_one : (b : Bool) → leb (cond b 0 1) 1 ≡ true
none_or_one true = refl
none_or_one false = refl

-- a given level, or 15 or 0
given-or : (given : Bool) (level : ℕ) (powered : Bool) → cond given level 0 ≤ max_signal → cond given level (cond powered max_signal 0) ≤ max_signal
given-or true level powered h = h
given-or false level true h = le_refl max_signal
given-or false level false h = h

-- a queue of m + 1 bits, filled
filled_queue : (b : Bool) (m : ℕ) → (ltb (cond b 1 0 * (2 ^ suc m - 1)) (2 ^ suc m) && eqb (cond b 1 0 * (2 ^ suc m - 1) % 2) (cond b 1 0)) ≡ true
filled_queue true m =
    rw (lt-ltb (1 * (2 ^ suc m - 1)) (2 ^ suc m) (omega (arith, pow-suc 2 m, pow_pos m)))
    (eq-eqb (1 * (2 ^ suc m - 1) % 2) 1 (omega (arith, pow-suc 2 m, pow_pos m)))
filled_queue false m =
    rw (lt-ltb (0 * (2 ^ suc m - 1)) (2 ^ suc m) (omega (arith, pow-suc 2 m, pow_pos m))) (eq-eqb (0 * (2 ^ suc m - 1) % 2) 0 (omega arith))

-- the light of a lamp (x), of a bulb (y) and of neither, with no ticks left
light_of : (x y power powered : Bool)
    → let lit = cond x (number power) (cond y (number powered) 0) in
    cond x (leb lit 1 && (leb 0 2 && (eqb lit 1 || eqb 0 0))) (cond y (leb lit 1 && eqb 0 0) (eqb lit 0 && eqb 0 0)) ≡ true
light_of true y true powered = refl
light_of true y false powered = refl
light_of false true power true = refl
light_of false true power false = refl
light_of false false power powered = refl

had-power-of : (y power : Bool) → cond y (leb (number (y && power)) 1) (eqb (number (y && power)) 0) ≡ true
had-power-of true true = refl
had-power-of true false = refl
had-power-of false power = refl

either : (x : Bool) {a b : Bool} → a ≡ true → b ≡ true → cond x a b ≡ true
either true g h = g
either false g h = h

module _ (t : Bytes) (i : ℕ) where
  -- the device byte of a fresh row is of its kind
  pub fresh-device : good_device (kind_of t i) (fresh_device t i) ≡ true
  unfolding good_device fresh_device
  fresh-device =
      by_cases (ℕ_discrete (kind_of t i) Repeater) (λ k. rw k (one_or_none (is_powered t i)))
      (λ l. by_cases (ℕ_discrete (kind_of t i) RedstoneTorch) (λ k. rw k (none_or_one (eqb (powered_of t i) 1)))
      (λ m. by_cases (ℕ_discrete (kind_of t i) Comparator) (λ k. rw k)
      (λ n. rw (ne_eqb (kind_of t i) Repeater l, ne_eqb (kind_of t i) RedstoneTorch m, ne_eqb (kind_of t i) Comparator n))))

  -- and at most 15, where no comparator's given level is above that
  pub fresh_low : (kind_of t i ≡ Comparator → level_or t i 0 ≤ max_signal) → fresh_device t i ≤ max_signal
  unfolding fresh_device
  fresh_low low =
      by_cases (ℕ_discrete (kind_of t i) Comparator) (λ k. rw k (given-or (eqb (byte_of t i 15) 1) (byte_of t i 16) (is_powered t i) (low k)))
      (λ n. omega (arith, other_low (kind_of t i) (fresh_device t i) n fresh-device))

  pub fresh_row_low : (kind_of t i ≡ Comparator → level_or t i 0 ≤ max_signal) → (weak strong : Column) → device_of (fresh_row t weak strong i) ≤ max_signal
  unfolding fresh_row
  fresh_row_low low weak strong = fresh_low low

  bits : suc (delay_of t i - 1) ≡ delay_of t i
  bits = omega (arith, delay_range t i)

  fresh-queue : (weak strong : Column) → good_queue t i (fresh_row t weak strong i) ≡ true
  unfolding good_queue fresh_row fresh_queue fresh_device
  fresh-queue weak strong =
      by_cases (ℕ_discrete (kind_of t i) Repeater)
      (λ k. rw (k, ← bits) (filled_queue (is_powered t i) (delay_of t i - 1)))
      (λ n. rw (ne_eqb (kind_of t i) Repeater n))

  -- a fresh row is within the layout
  pub fresh_good : (weak strong : Column) → good_state t i (fresh_row t weak strong i) ≡ true
  unfolding fresh_row good_light good_torch good_had_power fresh_light fresh_had_power bits_set is_candidate
  fresh_good weak strong =
      whole t i (fresh_row t weak strong i)
      (record {
        device = fresh-device;
        queue = fresh-queue weak strong;
        light = light_of (eqb (kind_of t i) RedstoneLamp) (eqb (kind_of t i) CopperBulb) (has_power weak strong i) (is_powered t i);
        torch = either (eqb (kind_of t i) RedstoneTorch) refl refl;
        had_power = had-power-of (eqb (kind_of t i) CopperBulb) (has_power weak strong i);
        rest = refl;
      })
