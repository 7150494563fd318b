-- Document 02, Change 4: the state of a row that is no bulb is document 01's, fresh, valid and over a tick. Assumes nothing.
use mathlib.Core.Path.{◌≡◌, refl}
use mathlib.Core.Bool.{Bool, true, false, cond, ◌&&◌, ◌||◌, and_assoc}
use mathlib.Core.List.{◌∷◌}
use Prim.Native.Nat.{ℕ, ◌+◌}
use lib.ListN.{get_or, replicate}
use lib.Dec.{eqb, leb}
use borrow.Author.Tests.{ne_eqb}
use Rattle.columns.specs.Column.{Bytes, Column}
use Rattle.columns.specs.First.{all_below}
use Rattle.blocks.specs.Kind.{RedstoneLamp, CopperBulb}
use Rattle.world.specs.Rows.{kind_of}
use Rattle.emitted.specs.Emitted.{good_device}
use Rattle.levels.specs.Numbers.{has_power, number}
use Rattle.states.specs.Row.{device_of, lit_of, left_of, good_queue, good_light, good_torch, good_had_power, good_rest, good_state}
use Rattle.fresh.specs.Fresh.{fresh_device, fresh_queue, fresh_light, fresh_had_power, fresh_row}
use Rattle.lamp.specs.Step.{lamp_row}
use Rattle.bulb.specs.Step.{bulb_row}
use Rattle.devices.specs.Step.{light_row}

-- "lamp lit 0/1"; "ticks left .., 0-2, 0 if unlit"; "Bytes of another kind's device are 0"
abbrev pub good_lamp01 : Bytes → ℕ → Bytes → Bool
good_lamp01 t i r =
    cond (eqb (kind_of t i) RedstoneLamp)
    (leb (lit_of r) 1 && (leb (left_of r) 2 && (eqb (lit_of r) 1 || eqb (left_of r) 0)))
    (eqb (lit_of r) 0 && eqb (left_of r) 0)

-- "the rest 0": bytes 9 to 15
abbrev pub good_rest01 : Bytes → Bool
good_rest01 r = all_below (λ k. eqb (get_or r (9 + k) 0) 0) 7

-- the sixteen bytes r of row i are within document 01's layout
abbrev pub good_state01 : Bytes → ℕ → Bytes → Bool
good_state01 t i r =
    good_device (kind_of t i) (device_of r) && (good_queue t i r && (good_lamp01 t i r && (good_torch t i r && good_rest01 r)))

rest_01 : (r : Bytes) → (eqb (get_or r 9 0) 0 && good_rest r) ≡ good_rest01 r
rest_01 r = simp and_assoc

lamp_light : (lamp power : Bool) → cond lamp (number power) 0 ≡ number (lamp && power)
lamp_light true power = refl
lamp_light false power = refl

module _ (t : Bytes) (i : ℕ) (none : ¬ (kind_of t i ≡ CopperBulb)) where
  pub good_state_01 : (r : Bytes) → good_state t i r ≡ good_state01 t i r
  unfolding good_state good_light good_had_power
  good_state_01 r = rw (ne_eqb (kind_of t i) CopperBulb none, rest_01 r) refl

  pub fresh_row_01 : (weak strong : Column)
      → fresh_row t weak strong i ≡ fresh_device t i ∷ fresh_queue t i ∷ number (eqb (kind_of t i) RedstoneLamp && has_power weak strong i) ∷ replicate 13 0
  unfolding fresh_row fresh_light fresh_had_power
  fresh_row_01 weak strong =
      rw (ne_eqb (kind_of t i) CopperBulb none, lamp_light (eqb (kind_of t i) RedstoneLamp) (has_power weak strong i)) refl

  pub light_row_01 : (weak strong : Column) (r : Bytes) → light_row t weak strong i r ≡ lamp_row t weak strong i r
  unfolding light_row bulb_row
  light_row_01 weak strong r = rw (ne_eqb (kind_of t i) CopperBulb none) refl
