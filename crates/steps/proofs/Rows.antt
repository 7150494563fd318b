-- Laws of the steps of a row: they keep its length, a lamp's and a bulb's leave the device alone, and a candidate stays one.
-- Assumes nothing.
use mathlib.Core.Path.{◌≡◌, refl, ◌∙◌}
use mathlib.Core.Bool.{Bool, true, false, cond, not}
use Prim.Native.Nat.{ℕ, ◌≤◌, ◌<◌, max}
use native.Mathlib.Nat.{le_refl, le-max_left}
use native.Mathlib.Omega.{arith}
use lib.ListN.{length, get_or, set, length-set}
use lib.Dec.{eqb}
use lib.Seq.{get_or-set_same, get_or-set_other}
use Rattle.columns.specs.Column.{Bytes, Column}
use Rattle.blocks.specs.Kind.{RedstoneTorch, Repeater, Comparator, RedstoneLamp, CopperBulb}
use Rattle.world.specs.Rows.{kind_of}
use Rattle.levels.specs.Numbers.{Numbers, number}
use Rattle.states.specs.Row.{device_of, toggles_of, candidate_of, is_candidate}
use Rattle.repeater.specs.Step.{is_locked, repeater_row}
use Rattle.torch.specs.Step.{next_torch, next_toggles, next_candidate, set_toggles, torch_row}
use Rattle.lamp.specs.Step.{lamp_row}
use Rattle.bulb.specs.Step.{bulb_row}
use Rattle.devices.specs.Step.{device_row, light_row}

-- what holds of both choices holds of the one taken
choose : (P : Bytes → Type 0) (b : Bool) {x y : Bytes} → P x → P y → P (cond b x y)
choose P true p q = p
choose P false p q = q

at_least : {n m : ℕ} → n ≡ m → m ≤ n
at_least {n} {m} e = rw e (le_refl m)

length_two : (r : Bytes) (a b x y : ℕ) → length (set (set r a x) b y) ≡ length r
length_two r a b x y = simp length-set

length_toggles : (r : Bytes) (x w : ℕ) → length (set_toggles (set r 0 x) w) ≡ length r
length_toggles r x w = simp length-set

-- a byte 8 that is the larger of n and another is at least n
raised : (q r : Bytes) (n m : ℕ) → length q ≡ length r → 8 < length r → n ≤ candidate_of (set q 8 (max n m))
raised q r n m e h = rw (get_or-set_same q 8 (max n m) 0 (rw e h)) (le-max_left n m)

-- ---- a lamp's step, and a bulb's

-- byte k stays where bytes a and b are written
other_byte : (r : Bytes) (a b k x y : ℕ) → ¬ (k ≡ a) → ¬ (k ≡ b) → get_or (set (set r a x) b y) k 0 ≡ get_or r k 0
other_byte r a b k x y m n = get_or-set_other (set r a x) b k y 0 n ∙ get_or-set_other r a k x 0 m

module _ (t : Bytes) (weak strong : Column) (i : ℕ) (r : Bytes) where
  pub length_lamp : length (lamp_row t weak strong i r) ≡ length r
  unfolding lamp_row
  length_lamp = choose (λ x. length x ≡ length r) (eqb (kind_of t i) RedstoneLamp) (length_two r 2 3 _ _) refl

  length_bulb : length (bulb_row t weak strong i r) ≡ length r
  unfolding bulb_row
  length_bulb = choose (λ x. length x ≡ length r) (eqb (kind_of t i) CopperBulb) (length_two r 2 9 _ _) refl

  -- a lamp's step writes bytes 2 and 3 alone, and a bulb's 2 and 9
  module _ (k : ℕ) (m : ¬ (k ≡ 2)) where
    lamp_keeps : ¬ (k ≡ 3) → get_or (lamp_row t weak strong i r) k 0 ≡ get_or r k 0
    unfolding lamp_row
    lamp_keeps n = choose (λ x. get_or x k 0 ≡ get_or r k 0) (eqb (kind_of t i) RedstoneLamp) (other_byte r 2 3 k _ _ m n) refl

    bulb_keeps : ¬ (k ≡ 9) → get_or (bulb_row t weak strong i r) k 0 ≡ get_or r k 0
    unfolding bulb_row
    bulb_keeps n = choose (λ x. get_or x k 0 ≡ get_or r k 0) (eqb (kind_of t i) CopperBulb) (other_byte r 2 9 k _ _ m n) refl

module _ (t : Bytes) (weak strong : Column) (i : ℕ) (r : Bytes) where
  pub length_light : length (light_row t weak strong i r) ≡ length r
  unfolding light_row
  length_light = length_bulb t weak strong i (lamp_row t weak strong i r) ∙ length_lamp t weak strong i r

  light_keeps : (k : ℕ) → ¬ (k ≡ 2) → ¬ (k ≡ 3) → ¬ (k ≡ 9) → get_or (light_row t weak strong i r) k 0 ≡ get_or r k 0
  unfolding light_row
  light_keeps k l m n = bulb_keeps t weak strong i (lamp_row t weak strong i r) k l n ∙ lamp_keeps t weak strong i r k l m

  pub light_device : device_of (light_row t weak strong i r) ≡ device_of r
  light_device = light_keeps 0 (λ e. omega arith) (λ e. omega arith) (λ e. omega arith)

  pub light_candidate : candidate_of (light_row t weak strong i r) ≡ candidate_of r
  light_candidate = light_keeps 8 (λ e. omega arith) (λ e. omega arith) (λ e. omega arith)

-- ---- a device's step

module _ (p t : Bytes) (d : Column) (s : Numbers) (i : ℕ) (r : Bytes) where
  length_repeater : length (repeater_row p t d s i r) ≡ length r
  unfolding repeater_row
  length_repeater = choose (λ x. length x ≡ length r) (is_locked t d i) refl (length_two r 0 1 _ _)

  length_torch : length (torch_row p t s.weak s.strong i r) ≡ length r
  unfolding torch_row
  length_torch = simp length-set

  pub length_device : length (device_row p t d s i r) ≡ length r
  unfolding device_row
  length_device =
      choose (λ x. length x ≡ length r) (eqb (kind_of t i) Repeater) length_repeater
      (choose (λ x. length x ≡ length r) (eqb (kind_of t i) RedstoneTorch) length_torch
      (choose (λ x. length x ≡ length r) (eqb (kind_of t i) Comparator) (length-set r 0 _) refl))

  repeater_candidate : candidate_of (repeater_row p t d s i r) ≡ candidate_of r
  unfolding repeater_row
  repeater_candidate =
      choose (λ x. candidate_of x ≡ candidate_of r) (is_locked t d i) refl
      (get_or-set_other (set r 0 _) 1 8 _ 0 (λ e. omega arith) ∙ get_or-set_other r 0 8 _ 0 (λ e. omega arith))

  torch_candidate : 8 < length r → candidate_of r ≤ candidate_of (torch_row p t s.weak s.strong i r)
  unfolding torch_row next_candidate
  torch_candidate h =
      let lit = next_torch p t s.weak s.strong i in
      let toggles = next_toggles (toggles_of r) (not (eqb lit (device_of r))) in
      raised (set_toggles (set r 0 lit) toggles) r (candidate_of r) (number (is_candidate toggles)) (length_toggles r lit toggles) h

  -- the candidate byte of a row never falls
  pub device_candidate : 8 < length r → candidate_of r ≤ candidate_of (device_row p t d s i r)
  unfolding device_row
  device_candidate h =
      choose (λ x. candidate_of r ≤ candidate_of x) (eqb (kind_of t i) Repeater) (at_least repeater_candidate)
      (choose (λ x. candidate_of r ≤ candidate_of x) (eqb (kind_of t i) RedstoneTorch) (torch_candidate h)
      (choose (λ x. candidate_of r ≤ candidate_of x) (eqb (kind_of t i) Comparator)
      (at_least (get_or-set_other r 0 8 _ 0 (λ e. omega arith)))
      (le_refl _)))
