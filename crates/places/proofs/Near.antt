-- Laws of how far apart positions are. A coordinate is shifted from so far down that it is a natural number.
-- Assumes nothing.
use mathlib.Core.Path.{◌≡◌, refl}
use mathlib.Core.Bool.{Bool, true, false, cond}
use mathlib.Core.List.Memᴰ
use mathlib.Core.List.{List, [], ◌∷◌, Memᴰ}
use Prim.Native.Nat.{ℕ, suc, ◌+◌, ◌-◌, ◌≤◌, ◌<◌}
use native.Mathlib.Omega.{arith}
use lib.Dec.{ltb}
use lib.IntN.{ℤ, pos, negsuc, sub_ℕ, ◌+ℤ◌}
use lib.Signed.{mag, le_z, lt_z}
use borrow.Author.Tests.{ltb-true, ltb-false, le-leb, lt-ltb}
use Rattle.places.specs.declared.Pos.{Pos}
use Rattle.places.specs.Signed.{sat_add}
use Rattle.places.specs.Places.{horizontals, offset, beside, above, below}
use Rattle.places.proofs.Steps.{InRange, mag_sum, sat_add_exact, Step, down, level, up, facing_step, sideways, over_beside, around_along, around}

-- ---- one coordinate

-- the number, counted from -4,000,000
abbrev pub shifted : ℤ → ℕ
shifted (pos n) = 4000000 + n
shifted (negsuc n) = 3999999 - n

shifted_sub : (a b : ℕ) → a ≤ 2000000 → b ≤ 2000000 → shifted (sub_ℕ a b) + b ≡ 4000000 + a
shifted_sub a b g h = go (ltb a b) refl
  where
    go : (t : Bool) → ltb a b ≡ t → shifted (cond t (negsuc (b - suc a)) (pos (a - b))) + b ≡ 4000000 + a
    go true e = omega (arith, ltb-true a b e)
    go false e = omega (arith, ltb-false a b e)

-- a sum is shifted as its parts together
pub shifted_sum : (a d : ℤ) → mag a ≤ 1000000 → mag d ≤ 2 → shifted (a +ℤ d) + 4000000 ≡ shifted a + shifted d
shifted_sum (pos a) (pos b) g h = omega arith
shifted_sum (pos a) (negsuc b) g h = omega (arith, shifted_sub a (suc b) (omega arith) (omega arith))
shifted_sum (negsuc a) (pos b) g h = omega (arith, shifted_sub b (suc a) (omega arith) (omega arith))
shifted_sum (negsuc a) (negsuc b) g h = omega arith

pub shifted_le : (a b : ℤ) → mag a ≤ 3000000 → mag b ≤ 3000000 → shifted a ≤ shifted b → le_z a b ≡ true
shifted_le (pos a) (pos b) g h l = le-leb a b (omega arith)
shifted_le (pos a) (negsuc b) g h l = absurd (omega arith)
shifted_le (negsuc a) (pos b) g h l = refl
shifted_le (negsuc a) (negsuc b) g h l = le-leb b a (omega arith)

shifted_less : (a b : ℤ) → mag a ≤ 3000000 → mag b ≤ 3000000 → shifted a < shifted b → lt_z a b ≡ true
shifted_less (pos a) (pos b) g h l = lt-ltb a b (omega arith)
shifted_less (pos a) (negsuc b) g h l = absurd (omega arith)
shifted_less (negsuc a) (pos b) g h l = refl
shifted_less (negsuc a) (negsuc b) g h l = lt-ltb b a (omega arith)

-- the numbers are at most k apart
pub record Within (k : ℕ) (a b : ℤ) : Type 0 where
  pub up : shifted a ≤ shifted b + k
  pub down : shifted b ≤ shifted a + k

-- a step, shifted
step_shifted : {d : ℤ} → Step d → (3999999 ≤ shifted d) × (shifted d ≤ 4000001) × (mag d ≤ 2)
step_shifted down = (omega arith, omega arith, omega arith)
step_shifted level = (omega arith, omega arith, omega arith)
step_shifted up = (omega arith, omega arith, omega arith)

sum_within : (a : ℤ) {d : ℤ} → mag a ≤ 1000000 → Step d → Within 1 (sat_add a d) a
sum_within a {d} g s =
    let (low, high, few) = step_shifted s in
    rw (sat_add_exact a d (omega arith) few) (record { up = omega (arith, shifted_sum a d g few); down = omega (arith, shifted_sum a d g few) })

-- a smaller step leads to a smaller number
pub sum_less : (a : ℤ) {d e : ℤ} → mag a ≤ 1000000 → Step d → Step e → shifted d < shifted e → lt_z (sat_add a d) (sat_add a e) ≡ true
sum_less a {d} {e} g s u l =
    let (_, _, few-d) = step_shifted s in
    let (_, _, few-e) = step_shifted u in
    rw (sat_add_exact a d (omega arith) few-d, sat_add_exact a e (omega arith) few-e)
    (shifted_less (a +ℤ d) (a +ℤ e) (omega (arith, mag_sum a d)) (omega (arith, mag_sum a e)) (omega (arith, shifted_sum a d g few-d, shifted_sum a e g few-e)))

-- ---- positions

-- no coordinates of theirs are more than k apart
pub record Near (k : ℕ) (p q : Pos) : Type 0 where
  pub x : Within k p.x q.x
  pub y : Within k p.y q.y
  pub z : Within k p.z q.z

pub near_sum : {j k : ℕ} {p q r : Pos} → Near j p q → Near k q r → Near (j + k) p r
near_sum a b =
    record {
      x = record { up = omega (arith, a.x.up, b.x.up); down = omega (arith, a.x.down, b.x.down) };
      y = record { up = omega (arith, a.y.up, b.y.up); down = omega (arith, a.y.down, b.y.down) };
      z = record { up = omega (arith, a.z.up, b.z.up); down = omega (arith, a.z.down, b.z.down) };
    }

pub near_itself : (k : ℕ) (q : Pos) → Near k q q
near_itself k q =
    let same : (a : ℤ) → Within k a a = λ a. record { up = omega arith; down = omega arith } in
    record { x = same q.x; y = same q.y; z = same q.z }

-- ---- the cells around a position in range

module _ (q : Pos) (r : InRange q) where
  offset_near : {dx dy dz : ℤ} → Step dx → Step dy → Step dz → Near 1 (offset q dx dy dz) q
  offset_near a b c = record { x = sum_within q.x r.x a; y = sum_within q.y r.y b; z = sum_within q.z r.z c }

  pub above_near : Near 1 (above q) q
  above_near = offset_near level up level

  pub below_near : Near 1 (below q) q
  below_near = offset_near level down level

  sideways_near : (f : ℕ) {dy : ℤ} → Step dy → Near 1 (sideways q f dy) q
  sideways_near f y = let (x, z) = facing_step f in offset_near x y z

  pub beside_near : (f : ℕ) → Near 1 (beside q f) q
  unfolding beside
  beside_near f = sideways_near f level

  pub above_beside_near : (f : ℕ) → Near 1 (above (beside q f)) q
  above_beside_near f = rw (over_beside q r f up) (sideways_near f up)

  pub below_beside_near : (f : ℕ) → Near 1 (below (beside q f)) q
  below_beside_near f = rw (over_beside q r f down) (sideways_near f down)

  around-along : (n : Pos) (fs : List ℕ) → Memᴰ n (around_along q fs) → Near 1 n q
  unfolding around_along
  around-along n [] m = absurd (Memᴰ.not-nil m)
  around-along n (f ∷ fs) (Memᴰ.head e) = rw e (sideways_near f down)
  around-along n (f ∷ fs) (Memᴰ.tail (Memᴰ.head e)) = rw e (sideways_near f level)
  around-along n (f ∷ fs) (Memᴰ.tail (Memᴰ.tail (Memᴰ.head e))) = rw e (sideways_near f up)
  around-along n (f ∷ fs) (Memᴰ.tail (Memᴰ.tail (Memᴰ.tail m))) = around-along n fs m

  -- the positions from which dust can transmit to dust at q
  pub around_near : (n : Pos) → Memᴰ n (around q) → Near 1 n q
  around_near n m = around-along n horizontals m
