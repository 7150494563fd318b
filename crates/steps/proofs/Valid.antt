-- Laws of valid rows: a device's step and a lamp's or bulb's keep a valid row valid.
-- Assumes nothing.
use mathlib.Core.Path.{◌≡◌, refl, sym, subst, ◌∙◌}
use mathlib.Core.Logic.{by_cases}
use mathlib.Core.Bool.{Bool, true, false, cond, not, ◌&&◌, ◌||◌, false≢true}
use mathlib.Core.List.{◌∷◌}
use Prim.Native.Nat.{ℕ, zero, suc, ◌+◌, ◌*◌, ◌-◌, ◌/◌, ◌%◌, ◌^◌, ◌≤◌, ◌<◌, max}
use native.Mathlib.Nat.{pow-suc}
use native.Mathlib.Decide.{ℕ_discrete}
use native.Mathlib.Omega.{arith}
use lib.ListN.{length, set}
use lib.Dec.{eqb, leb, ltb}
use borrow.Author.Tests.{eq-eqb, ne_eqb, leb-true, le-leb, ltb-true, lt-ltb}
use Rattle.columns.specs.Column.{Bytes, Column, row, tabulate_from}
use Rattle.columns.proofs.Columns.{is_tabulate}
use Rattle.columns.proofs.Truth.{and_true}
use Rattle.words.proofs.FourBytes.{word_again}
use Rattle.blocks.specs.Kind.{RedstoneTorch, Repeater, Comparator, RedstoneLamp, CopperBulb}
use Rattle.world.specs.Rows.{kind_of}
use Rattle.emitted.specs.Emitted.{good_device}
use Rattle.levels.specs.Numbers.{Numbers, has_power, number}
use Rattle.states.specs.Row.{delay_of, is_candidate, good_queue, good_light, good_torch, good_had_power}
use Rattle.repeater.specs.Step.{is_requested, is_locked, next_queue, repeater_row}
use Rattle.torch.specs.Step.{torch_support_is_powered, next_torch, next_toggles, next_candidate, torch_row}
use Rattle.comparator.specs.Step.{next_comparator}
use Rattle.lamp.specs.Step.{next_lit, next_left, lamp_row}
use Rattle.bulb.specs.Step.{flipped, next_bulb_light, bulb_row}
use Rattle.devices.specs.Step.{device_row, light_row}
use Rattle.states.proofs.Powers.{delay_range}
use Rattle.states.proofs.Parts.{Parts}
use Rattle.steps.proofs.Rows.{length_lamp}

-- what holds of every row that is written out byte by byte holds of every row
every_row : (P : Bytes → Type 0) → ((a b c d e f g h k l : ℕ) (rest : Bytes) → P (a ∷ b ∷ c ∷ d ∷ e ∷ f ∷ g ∷ h ∷ k ∷ l ∷ rest)) → (r : Bytes) → length r ≡ 16 → P r
unfolding tabulate_from
every_row P all r h = subst P (sym (is_tabulate r 16 (row r) h (λ i l. refl))) (all _ _ _ _ _ _ _ _ _ _ _)

-- ---- lamps

lamp_step : (power : Bool) (lit left : ℕ) → lit ≤ 1 → left ≤ 2 → (eqb lit 1 || eqb left 0) ≡ true
    → (leb (next_lit power lit left) 1 && (leb (next_left power lit left) 2 && (eqb (next_lit power lit left) 1 || eqb (next_left power lit left) 0))) ≡ true
unfolding next_lit next_left
lamp_step true lit left g h u = refl
lamp_step false zero zero g h u = refl
lamp_step false zero (suc left) g h u = absurd (false≢true (rw (ne_eqb (suc left) 0 (λ e. omega arith)) at u))
lamp_step false (suc zero) zero g h u = refl
lamp_step false (suc zero) (suc zero) g h u = refl
lamp_step false (suc zero) (suc (suc zero)) g h u = refl
lamp_step false (suc zero) (suc (suc (suc left))) g h u = absurd (omega arith)
lamp_step false (suc (suc lit)) left g h u = absurd (omega arith)

module _ (t : Bytes) (weak strong : Column) (i : ℕ) where
  lamp_on : kind_of t i ≡ RedstoneLamp → (a b c d e f g h k l : ℕ) (rest : Bytes)
      → Parts t i (a ∷ b ∷ c ∷ d ∷ e ∷ f ∷ g ∷ h ∷ k ∷ l ∷ rest) → Parts t i (lamp_row t weak strong i (a ∷ b ∷ c ∷ d ∷ e ∷ f ∷ g ∷ h ∷ k ∷ l ∷ rest))
  unfolding good_queue good_light good_torch good_had_power lamp_row
  lamp_on kind a b c d e f g h k l rest p =
      let old : (leb c 1 && (leb d 2 && (eqb c 1 || eqb d 0))) ≡ true = rw kind at p.light in
      let (low, others) = and_true (leb c 1) _ old in
      let (few, unlit) = and_true (leb d 2) _ others in
      record {
        device = rw kind (rw kind at p.device);
        queue = rw kind (rw kind at p.queue);
        light = rw kind (lamp_step (has_power weak strong i) c d (leb-true _ _ low) (leb-true _ _ few) unlit);
        torch = rw kind (rw kind at p.torch);
        had_power = rw kind (rw kind at p.had_power);
        rest = rw kind p.rest;
      }

  -- a lamp's step keeps a valid row valid
  lamp_good : (r : Bytes) → length r ≡ 16 → Parts t i r → Parts t i (lamp_row t weak strong i r)
  unfolding lamp_row
  lamp_good r h p =
      by_cases (ℕ_discrete (kind_of t i) RedstoneLamp)
      (λ kind. every_row (λ r. Parts t i r → Parts t i (lamp_row t weak strong i r)) (lamp_on kind) r h p)
      (λ n. rw (ne_eqb (kind_of t i) RedstoneLamp n) p)

-- ---- bulbs

number_small : (b : Bool) → leb (number b) 1 ≡ true
number_small true = refl
number_small false = refl

-- a light stays 0 or 1
light_step : (flips : Bool) (light : ℕ) → leb light 1 ≡ true → (leb (cond flips (flipped light) light) 1 && true) ≡ true
light_step true light h = rw (number_small (eqb light 0))
light_step false light h = rw h

module _ (t : Bytes) (weak strong : Column) (i : ℕ) where
  bulb_on : kind_of t i ≡ CopperBulb → (a b c d e f g h k l : ℕ) (rest : Bytes)
      → Parts t i (a ∷ b ∷ c ∷ d ∷ e ∷ f ∷ g ∷ h ∷ k ∷ l ∷ rest) → Parts t i (bulb_row t weak strong i (a ∷ b ∷ c ∷ d ∷ e ∷ f ∷ g ∷ h ∷ k ∷ l ∷ rest))
  unfolding good_queue good_light good_torch good_had_power bulb_row next_bulb_light
  bulb_on kind a b c d e f g h k l rest p =
      let power = has_power weak strong i in
      let old : (leb c 1 && eqb d 0) ≡ true = rw kind at p.light in
      let (low, none) = and_true (leb c 1) _ old in
      record {
        device = rw kind (rw kind at p.device);
        queue = rw kind (rw kind at p.queue);
        light = rw (kind, none) (light_step (power && eqb l 0) c low);
        torch = rw kind (rw kind at p.torch);
        had_power = rw kind (number_small power);
        rest = rw kind p.rest;
      }

  -- a bulb's step keeps a valid row valid
  bulb_good : (r : Bytes) → length r ≡ 16 → Parts t i r → Parts t i (bulb_row t weak strong i r)
  unfolding bulb_row
  bulb_good r h p =
      by_cases (ℕ_discrete (kind_of t i) CopperBulb)
      (λ kind. every_row (λ r. Parts t i r → Parts t i (bulb_row t weak strong i r)) (bulb_on kind) r h p)
      (λ n. rw (ne_eqb (kind_of t i) CopperBulb n) p)

-- a lamp's step and then a bulb's keep a valid row valid
pub light_good : (t : Bytes) (weak strong : Column) (i : ℕ) (r : Bytes) → length r ≡ 16 → Parts t i r → Parts t i (light_row t weak strong i r)
unfolding light_row
light_good t weak strong i r h p =
    bulb_good t weak strong i (lamp_row t weak strong i r) (length_lamp t weak strong i r ∙ h) (lamp_good t weak strong i r h p)

-- ---- devices

candidate_step : (c : ℕ) (b : Bool) → c ≤ 1 → (leb (max c (number b)) 1 && (eqb (max c (number b)) 1 || not b)) ≡ true
candidate_step zero true h = refl
candidate_step zero false h = refl
candidate_step (suc zero) true h = refl
candidate_step (suc zero) false h = refl
candidate_step (suc (suc c)) b h = absurd (omega arith)

toggles_small : (old : ℕ) (toggled : Bool) → next_toggles old toggled < 2147483648
unfolding next_toggles
toggles_small old toggled = omega arith

-- of toggles w and a candidate byte c, after a step
torch_step : (w c : ℕ) → w < 2147483648 → c ≤ 1
    → (ltb w (2 ^ 31) && (leb (next_candidate c w) 1 && (eqb (next_candidate c w) 1 || not (is_candidate w)))) ≡ true
unfolding next_candidate
torch_step w c h l = rw (lt-ltb w 2147483648 h) (candidate_step c (is_candidate w) l)

-- a queue of m + 1 bits stays one
queue_low : (q m : ℕ) (b : Bool) → q < 2 ^ suc m → q / 2 + number b * 2 ^ m < 2 ^ suc m
queue_low q m true h = omega (arith, pow-suc 2 m)
queue_low q m false h = omega (arith, pow-suc 2 m)

-- a queue of delay bits, after a step
queue_step : (q delay : ℕ) (b : Bool) → 1 ≤ delay → ltb q (2 ^ delay) ≡ true
    → (ltb (next_queue q delay b) (2 ^ delay) && eqb (next_queue q delay b % 2) (next_queue q delay b % 2)) ≡ true
unfolding next_queue
queue_step q delay b l h =
    let e : suc (delay - 1) ≡ delay = omega arith in
    let low : q / 2 + number b * 2 ^ (delay - 1) < 2 ^ suc (delay - 1) = queue_low q (delay - 1) b (rw e (ltb-true q (2 ^ delay) h)) in
    rw (lt-ltb _ (2 ^ delay) (rw e at low)) (eq-eqb (next_queue q delay b % 2) _ refl)

module _ (p t : Bytes) (d : Column) (s : Numbers) (i : ℕ) where
  torch_on : kind_of t i ≡ RedstoneTorch → (a b c e f g h j k l : ℕ) (rest : Bytes)
      → Parts t i (a ∷ b ∷ c ∷ e ∷ f ∷ g ∷ h ∷ j ∷ k ∷ l ∷ rest) → Parts t i (torch_row p t s.weak s.strong i (a ∷ b ∷ c ∷ e ∷ f ∷ g ∷ h ∷ j ∷ k ∷ l ∷ rest))
  unfolding good_device good_queue good_light good_torch good_had_power torch_row
  torch_on kind a b c e f g h j k l rest v =
      let old = f + g * 256 + h * 65536 + j * 16777216 in
      let w = next_toggles old (not (eqb (next_torch p t s.weak s.strong i) a)) in
      let small = toggles_small old (not (eqb (next_torch p t s.weak s.strong i) a)) in
      let (_, x) = and_true (ltb old (2 ^ 31)) _ (rw kind at v.torch) in
      let (low, _) = and_true (leb k 1) _ x in
      record {
        device = rw kind (number_small (not (torch_support_is_powered p t s.weak s.strong i)));
        queue = rw kind (rw kind at v.queue);
        light = rw kind (rw kind at v.light);
        torch = rw (kind, word_again w (omega (arith, small))) (torch_step w k small (leb-true _ _ low));
        had_power = rw kind (rw kind at v.had_power);
        rest = v.rest;
      }

  repeater_on : kind_of t i ≡ Repeater → is_locked t d i ≡ false → (a b c e f g h j k l : ℕ) (rest : Bytes)
      → Parts t i (a ∷ b ∷ c ∷ e ∷ f ∷ g ∷ h ∷ j ∷ k ∷ l ∷ rest) → Parts t i (repeater_row p t d s i (a ∷ b ∷ c ∷ e ∷ f ∷ g ∷ h ∷ j ∷ k ∷ l ∷ rest))
  unfolding good_device good_queue good_light good_torch good_had_power repeater_row
  repeater_on kind free a b c e f g h j k l rest v =
      let q = next_queue b (delay_of t i) (is_requested p t s i) in
      let (low, _) = and_true (ltb b (2 ^ delay_of t i)) _ (rw kind at v.queue) in
      record {
        device = rw (free, kind) (le-leb (q % 2) 1 (omega arith));
        queue = rw (free, kind) (queue_step b (delay_of t i) (is_requested p t s i) (delay_range t i).0 low);
        light = rw (free, kind) (rw kind at v.light);
        torch = rw (free, kind) (rw kind at v.torch);
        had_power = rw (free, kind) (rw kind at v.had_power);
        rest = rw free v.rest;
      }

  comparator_on : kind_of t i ≡ Comparator → (n a b c e f g h j k l : ℕ) (rest : Bytes)
      → Parts t i (a ∷ b ∷ c ∷ e ∷ f ∷ g ∷ h ∷ j ∷ k ∷ l ∷ rest) → Parts t i (n ∷ b ∷ c ∷ e ∷ f ∷ g ∷ h ∷ j ∷ k ∷ l ∷ rest)
  unfolding good_device good_queue good_light good_torch good_had_power
  comparator_on kind n a b c e f g h j k l rest v =
      record {
        device = rw kind;
        queue = rw kind (rw kind at v.queue);
        light = rw kind (rw kind at v.light);
        torch = rw kind (rw kind at v.torch);
        had_power = rw kind (rw kind at v.had_power);
        rest = v.rest;
      }

  repeater_good : kind_of t i ≡ Repeater → (r : Bytes) → length r ≡ 16 → Parts t i r → Parts t i (repeater_row p t d s i r)
  unfolding repeater_row
  repeater_good kind r h v = go (is_locked t d i) refl
    where
      go : (b : Bool) → is_locked t d i ≡ b → Parts t i (repeater_row p t d s i r)
      go true e = rw e v
      go false e = every_row (λ r. Parts t i r → Parts t i (repeater_row p t d s i r)) (repeater_on kind e) r h v

  -- a device's step keeps a valid row valid
  pub device_good : (r : Bytes) → length r ≡ 16 → Parts t i r → Parts t i (device_row p t d s i r)
  unfolding device_row
  device_good r h v =
      by_cases (ℕ_discrete (kind_of t i) Repeater)
      (λ kind. rw kind (repeater_good kind r h v))
      (λ l. by_cases (ℕ_discrete (kind_of t i) RedstoneTorch)
      (λ kind. rw kind (every_row (λ r. Parts t i r → Parts t i (torch_row p t s.weak s.strong i r)) (torch_on kind) r h v))
      (λ m. by_cases (ℕ_discrete (kind_of t i) Comparator)
      (λ kind. rw kind (every_row (λ r. Parts t i r → Parts t i (set r 0 (next_comparator t s i))) (comparator_on kind (next_comparator t s i)) r h v))
      (λ n. rw (ne_eqb (kind_of t i) Repeater l, ne_eqb (kind_of t i) RedstoneTorch m, ne_eqb (kind_of t i) Comparator n) v)))
