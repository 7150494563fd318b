-- Laws of small steps from an accepted position: no sum stops at an end, so that a step is undone by the opposite one.
-- Assumes nothing.
use mathlib.Core.Path.{◌≡◌, refl, ap, ◌∙◌}
use mathlib.Core.Bool.{Bool, true, false, cond}
use mathlib.Core.List.{List, [], ◌∷◌, Memᴰ}
use Prim.Native.Nat.{ℕ, zero, suc, ◌+◌, ◌-◌, ◌≤◌}
use native.Mathlib.Omega.{arith}
use lib.Dec.{eqb, ltb}
use lib.IntN.{ℤ, pos, negsuc, neg_ℤ, sub_ℕ, ◌+ℤ◌, +ℤ_idr, +ℤ-neg_ℤ_cancel}
use lib.Signed.{mag}
use borrow.Author.Tests.{le-ltb}
use Rattle.columns.proofs.Members.{all_member}
use Rattle.places.specs.declared.Pos.{Pos}
use Rattle.places.specs.Signed.{zero_z, one, minus_one, clamp32, sat_add}
use Rattle.places.specs.Places.{North, East, South, West, horizontals, cell, offset, opposite, step, beside}

-- ---- one coordinate

clamp_exact : (z : ℤ) → mag z ≤ 2147483647 → clamp32 z ≡ z
unfolding clamp32
clamp_exact (pos n) h = rw (le-ltb 2147483647 n h)
clamp_exact (negsuc n) h = rw (le-ltb 2147483647 n h)

mag_sub : (a b : ℕ) → mag (sub_ℕ a b) ≤ a + b
mag_sub a b = go (ltb a b) refl
  where
    go : (t : Bool) → ltb a b ≡ t → mag (cond t (negsuc (b - suc a)) (pos (a - b))) ≤ a + b
    go true h = omega arith
    go false h = omega arith

pub mag_sum : (a d : ℤ) → mag (a +ℤ d) ≤ mag a + mag d + 1
mag_sum (pos a) (pos b) = omega arith
mag_sum (pos a) (negsuc b) = omega (arith, mag_sub a (suc b))
mag_sum (negsuc a) (pos b) = omega (arith, mag_sub b (suc a))
mag_sum (negsuc a) (negsuc b) = omega arith

mag_neg : (d : ℤ) → mag (neg_ℤ d) ≤ mag d + 1
mag_neg (pos zero) = omega arith
mag_neg (pos (suc n)) = omega arith
mag_neg (negsuc n) = omega arith

-- a sum within 32 bits does not stop
pub sum_exact : (a d : ℤ) → mag (a +ℤ d) ≤ 2147483647 → sat_add a d ≡ a +ℤ d
unfolding sat_add
sum_exact a d h = clamp_exact (a +ℤ d) h

pub sat_add_exact : (a d : ℤ) → mag a ≤ 2000000 → mag d ≤ 2 → sat_add a d ≡ a +ℤ d
sat_add_exact a d g h = sum_exact a d (omega (arith, mag_sum a d))

pub sat_add_none : (a : ℤ) → mag a ≤ 2000000 → sat_add a zero_z ≡ a
sat_add_none a h = sat_add_exact a zero_z h (omega arith) ∙ +ℤ_idr a

mag_sat_add : (a d : ℤ) → mag a ≤ 2000000 → mag d ≤ 2 → mag (sat_add a d) ≤ mag a + 3
mag_sat_add a d g h = rw (sat_add_exact a d g h) (omega (arith, mag_sum a d))

sat_add_back : (a d : ℤ) → mag a ≤ 1000000 → mag d ≤ 1 → sat_add (sat_add a d) (neg_ℤ d) ≡ a
sat_add_back a d g h =
    sat_add_exact (sat_add a d) (neg_ℤ d) (omega (arith, mag_sat_add a d (omega arith) (omega arith))) (omega (arith, mag_neg d))
    ∙ ap (λ z. z +ℤ neg_ℤ d) (sat_add_exact a d (omega arith) (omega arith))
    ∙ +ℤ-neg_ℤ_cancel a d

-- ---- positions

-- "each from -1,000,000 to 1,000,000"
pub record InRange (q : Pos) : Type 0 where
  pub x : mag q.x ≤ 1000000
  pub y : mag q.y ≤ 1000000
  pub z : mag q.z ≤ 1000000

module _ (q : Pos) (r : InRange q) (dx dy dz : ℤ) (hx : mag dx ≤ 1) (hy : mag dy ≤ 1) (hz : mag dz ≤ 1) where
  -- a step and its opposite lead back
  pub offset_back : offset (offset q dx dy dz) (neg_ℤ dx) (neg_ℤ dy) (neg_ℤ dz) ≡ q
  offset_back =
      λ i. record { x = sat_add_back q.x dx r.x hx i; y = sat_add_back q.y dy r.y hy i; z = sat_add_back q.z dz r.z hz i }

  -- a level step and a step up or down are one step
  pub offset_both : offset (offset q dx zero_z dz) zero_z dy zero_z ≡ offset q dx dy dz
  offset_both =
      λ i. record {
        x = sat_add_none (sat_add q.x dx) (omega (arith, mag_sat_add q.x dx (omega (arith, r.x)) (omega arith))) i;
        y = ap (λ y. sat_add y dy) (sat_add_none q.y (omega (arith, r.y))) i;
        z = sat_add_none (sat_add q.z dz) (omega (arith, mag_sat_add q.z dz (omega (arith, r.z)) (omega arith))) i;
      }

-- ---- along the four facings

-- a step along one axis: down or back, none, up or forth
pub data Step : ℤ → Type 0 where
  down : Step minus_one
  level : Step zero_z
  up : Step one

pub step_small : {d : ℤ} → Step d → mag d ≤ 1
step_small down = omega arith
step_small level = omega arith
step_small up = omega arith

pub step_back : {d : ℤ} → Step d → Step (neg_ℤ d)
step_back down = up
step_back level = level
step_back up = down

-- the step along any facing, on the two level axes
pub facing_step : (f : ℕ) → Step (step f).x × Step (step f).z
unfolding step
facing_step f = go (eqb f North) (eqb f East) (eqb f South) (eqb f West)
  where
    along : Bool → Bool → Bool → Bool → Pos
    along north east south west =
        cond north (cell zero_z zero_z minus_one)
        (cond east (cell one zero_z zero_z) (cond south (cell zero_z zero_z one) (cond west (cell minus_one zero_z zero_z) (cell zero_z zero_z zero_z))))

    go : (north east south west : Bool) → Step (along north east south west).x × Step (along north east south west).z
    go true e s w = (level, down)
    go false true s w = (up, level)
    go false false true w = (level, up)
    go false false false true = (down, level)
    go false false false false = (level, level)

-- the step along the opposite facing is the opposite step
record Turned (f : ℕ) : Type 0 where
  stays : Memᴰ (opposite f) horizontals
  x : (step (opposite f)).x ≡ neg_ℤ (step f).x
  z : (step (opposite f)).z ≡ neg_ℤ (step f).z

turned : (f : ℕ) → Memᴰ f horizontals → Turned f
unfolding opposite step
turned =
    all_member Turned horizontals (
      record { stays = Memᴰ.tail (Memᴰ.tail (Memᴰ.head refl)); x = refl; z = refl },
      (
        record { stays = Memᴰ.tail (Memᴰ.tail (Memᴰ.tail (Memᴰ.head refl))); x = refl; z = refl },
        (
          record { stays = Memᴰ.head refl; x = refl; z = refl },
          (
            record { stays = Memᴰ.tail (Memᴰ.head refl); x = refl; z = refl },
            tt,
          ),
        ),
      ),
    )

-- the cell beside q, and dy above it
abbrev pub sideways : Pos → ℕ → ℤ → Pos
sideways q f dy = offset q (step f).x dy (step f).z

module _ (q : Pos) (r : InRange q) (f : ℕ) where
  module _ (m : Memᴰ f horizontals) where
    pub opposite_horizontal : Memᴰ (opposite f) horizontals
    opposite_horizontal = (turned f m).stays

    -- from a cell sideways of q the opposite facing leads back to q
    pub sideways_back : (dy : ℤ) → mag dy ≤ 1 → sideways (sideways q f dy) (opposite f) (neg_ℤ dy) ≡ q
    sideways_back dy h =
        let o : Turned f = turned f m in
        let (x, z) = facing_step f in
        rw (o.x, o.z) (offset_back q r (step f).x dy (step f).z (step_small x) h (step_small z))

  -- the cell above or below the one beside
  pub over_beside : {dy : ℤ} → Step dy → offset (beside q f) zero_z dy zero_z ≡ sideways q f dy
  unfolding beside
  over_beside {dy} y =
      let (x, z) = facing_step f in
      offset_both q r (step f).x dy (step f).z (step_small x) (step_small y) (step_small z)

-- ---- the positions around q

-- the twelve positions from which dust can transmit to dust at q: `dust.offset(delta.x, dy, delta.z)`
unfoldable pub around_along : Pos → List ℕ → List Pos
around_along q [] = []
around_along q (f ∷ fs) = sideways q f minus_one ∷ sideways q f zero_z ∷ sideways q f one ∷ around_along q fs

abbrev pub around : Pos → List Pos
around q = around_along q horizontals

pub is_around : (q : Pos) (f : ℕ) (fs : List ℕ) → Memᴰ f fs → {dy : ℤ} → Step dy → Memᴰ (sideways q f dy) (around_along q fs)
unfolding around_along
is_around q f fs (Memᴰ.head e) down = Memᴰ.head (ap (λ g. sideways q g minus_one) e)
is_around q f fs (Memᴰ.head e) level = Memᴰ.tail (Memᴰ.head (ap (λ g. sideways q g zero_z) e))
is_around q f fs (Memᴰ.head e) up = Memᴰ.tail (Memᴰ.tail (Memᴰ.head (ap (λ g. sideways q g one) e)))
is_around q f fs (Memᴰ.tail {x = g} {xs = gs} m) s = Memᴰ.tail (Memᴰ.tail (Memᴰ.tail (is_around q f gs m s)))
