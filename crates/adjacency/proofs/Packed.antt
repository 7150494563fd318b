-- Laws of positions as numbers: the number of a coordinate that is given by its bits, the order of the numbers is that of the positions, and a step from
-- an accepted position leads so much ahead or back.
-- Assumes nothing.
use mathlib.Core.Path.{◌≡◌, refl, ap, sym, ◌∙◌}
use mathlib.Core.Bool.{Bool, true, false, cond, ◌&&◌, ◌||◌, true≢false}
use mathlib.Core.Logic.{⊎_elim}
use Prim.Native.Nat.{ℕ, ◌+◌, ◌-◌, ◌*◌, ◌%◌, ◌≤◌, ◌<◌}
use native.Mathlib.Omega.{arith}
use lib.Dec.{eqb, ltb}
use lib.IntN.{ℤ, pos, negsuc}
use lib.Signed.{mag, lt_z, le_z}
use borrow.Author.Tests.{ltb-true, ltb-false, leb-true, lt-ltb, le-ltb, eq-eqb, ne_eqb}
use Rattle.columns.proofs.Truth.{and_true, or_true}
use Rattle.places.specs.declared.Pos.{Pos}
use Rattle.places.specs.Signed.{zero_z, signed32, sat_add, eq_z}
use Rattle.places.specs.Places.{cell, offset, same_pos, before}
use Rattle.places.proofs.Order.{eq_z_true, same_pos_true, same_pos_refl, at_or_past}
use Rattle.places.proofs.Steps.{sat_add_exact, Step, down, level, up}
use Rattle.places.proofs.Near.{shifted, shifted_sum, Within, Near}
use Rattle.layout.specs.Good.{in_range, good_place}
use Rattle.adjacency.specs.Adjacency.{biased, packed}
use Rattle.adjacency.specs.Steps.{step_x, step_y, here}

-- ---- one coordinate

-- at most k from 0
abbrev Close : ℕ → ℤ → Type 0
Close k a = Within k a zero_z

accepted_close : (c : ℤ) → in_range c ≡ true → Close 1000000 c
accepted_close (pos n) h =
    let (_, b) = and_true (le_z (negsuc 999999) (pos n)) (le_z (pos n) (pos 1000000)) h in
    record { up = omega (arith, leb-true n 1000000 b); down = omega arith }
accepted_close (negsuc n) h =
    let (a, _) = and_true (le_z (negsuc 999999) (negsuc n)) (le_z (negsuc n) (pos 1000000)) h in
    record { up = omega arith; down = omega (arith, leb-true n 999999 a) }

-- the bits of a number, where they are below 2,147,483,648 and where not
abbrev bits : ℕ → Bool → ℤ
bits n low = cond low (pos n) (negsuc (4294967295 - n))

-- the number of one that is given by its bits
pub word_biased : (n : ℕ) → n < 4294967296 → in_range (signed32 n) ≡ true
    → ((n + 1000001) % 4294967296 ≡ biased (signed32 n)) × ((n + 1000001) % 4294967296 ≤ 2000001)
unfolding signed32
word_biased n l h = go (ltb n 2147483648) refl (accepted_close _ h)
  where
    go : (low : Bool) → ltb n 2147483648 ≡ low → Close 1000000 (bits n low)
        → ((n + 1000001) % 4294967296 ≡ biased (bits n low)) × ((n + 1000001) % 4294967296 ≤ 2000001)
    go true e c = (omega (arith, c.up), omega (arith, c.up))
    go false e c = (omega (arith, c.down, ltb-false n 2147483648 e), omega (arith, c.down, ltb-false n 2147483648 e))

-- the numbers are those that count from -4,000,000, less as much
from_shifted : (a : ℤ) → Close 1000001 a → biased a + 2999999 ≡ shifted a
from_shifted (pos n) c = omega arith
from_shifted (negsuc n) c = omega (arith, c.down)

less_biased : (a b : ℤ) → Close 1000001 a → Close 1000001 b → lt_z a b ≡ true → biased a < biased b
less_biased (pos a) (pos b) c d h = omega (arith, ltb-true a b h)
less_biased (pos a) (negsuc b) c d h = absurd (true≢false (sym h))
less_biased (negsuc a) (pos b) c d h = omega arith
less_biased (negsuc a) (negsuc b) c d h = omega (arith, ltb-true b a h, c.down)

-- a step, counted from -1 on
abbrev pub counted : {d : ℤ} → Step d → ℕ
counted down = 0
counted level = 1
counted up = 2

step_shifted : {d : ℤ} (s : Step d) → (shifted d ≡ 3999999 + counted s) × (counted s ≤ 2) × (mag d ≤ 2)
step_shifted down = (omega arith, omega arith, omega arith)
step_shifted level = (omega arith, omega arith, omega arith)
step_shifted up = (omega arith, omega arith, omega arith)

mag_close : (a : ℤ) → Close 1000000 a → mag a ≤ 1000000
mag_close (pos n) c = omega (arith, c.up)
mag_close (negsuc n) c = omega (arith, c.down)

module _ (a : ℤ) {d : ℤ} (c : Close 1000000 a) (s : Step d) where
  sum_shifted : shifted (sat_add a d) + 4000000 ≡ shifted a + shifted d
  sum_shifted =
      let (_, _, few) = step_shifted s in
      rw (sat_add_exact a d (omega (arith, mag_close a c)) few) (shifted_sum a d (mag_close a c) few)

  sum_close : Close 1000001 (sat_add a d)
  sum_close =
      let (one, few, _) = step_shifted s in
      record { up = omega (arith, sum_shifted, c.up); down = omega (arith, sum_shifted, c.down) }

  sum_biased : biased (sat_add a d) + 1 ≡ biased a + counted s
  sum_biased =
      let (one, _, _) = step_shifted s in
      let wider : Close 1000001 a = record { up = omega (arith, c.up); down = omega (arith, c.down) } in
      omega (arith, sum_shifted, from_shifted a wider, from_shifted (sat_add a d) sum_close)

-- ---- positions

-- no coordinate more than k from 0
abbrev pub Held : ℕ → Pos → Type 0
Held k q = Near k q (cell zero_z zero_z zero_z)

pub accepted_held : (q : Pos) → good_place q ≡ true → Held 1000000 q
unfolding good_place
accepted_held q h =
    let (xy, c) = and_true (in_range q.x && in_range q.y) (in_range q.z) h in
    let (a, b) = and_true (in_range q.x) (in_range q.y) xy in
    record { x = accepted_close q.x a; y = accepted_close q.y b; z = accepted_close q.z c }

module _ (q : Pos) (c : Held 1000000 q) {dx dy dz : ℤ} (x : Step dx) (y : Step dy) (z : Step dz) where
  pub step_held : Held 1000001 (offset q dx dy dz)
  step_held = record { x = sum_close q.x c.x x; y = sum_close q.y c.y y; z = sum_close q.z c.z z }

  pub step_packed : packed (offset q dx dy dz) ≡ packed q + (counted x * step_x + (counted y * step_y + counted z)) - here
  unfolding packed
  step_packed = omega (arith, sum_biased q.x c.x x, sum_biased q.y c.y y, sum_biased q.z c.z z)

-- a coordinate's number has 21 bits
low_bits : (a : ℤ) → Close 1000001 a → biased a < 2097152
low_bits a c = omega (arith, from_shifted a c, c.up)

inner : (a : ℤ) → Close 1000000 a → (1 ≤ biased a) × (biased a ≤ 2000001)
inner (pos n) c = (omega arith, omega (arith, c.up))
inner (negsuc n) c = (omega (arith, c.down), omega arith)

-- an accepted position's number is from that of one step in each direction on, and below 2^63
pub packed_bounds : (q : Pos) → Held 1000000 q → (here ≤ packed q) × (packed q < 9223372036854775808)
unfolding packed
packed_bounds q c =
    let x = inner q.x c.x in
    let y = inner q.y c.y in
    let z = inner q.z c.z in
    (omega arith, omega arith)

-- what comes before has the lesser number
pub before_less : (p q : Pos) → Held 1000001 p → Held 1000001 q → before p q ≡ true → packed p < packed q
unfolding before packed
before_less p q c d h = ⊎_elim (λ a. omega (arith, less_biased p.x q.x c.x d.x a, py, pz)) past_x (or_true (lt_z p.x q.x) _ h)
  where
    py : biased p.y < 2097152
    py = low_bits p.y c.y

    pz : biased p.z < 2097152
    pz = low_bits p.z c.z

    past_y : p.x ≡ q.x → (eq_z p.y q.y && lt_z p.z q.z) ≡ true → packed p < packed q
    past_y e g =
        let (a, b) = and_true (eq_z p.y q.y) _ g in
        omega (arith, ap biased e, ap biased (eq_z_true p.y q.y a), less_biased p.z q.z c.z d.z b)

    past_x : (eq_z p.x q.x && (lt_z p.y q.y || (eq_z p.y q.y && lt_z p.z q.z))) ≡ true → packed p < packed q
    past_x g =
        let (a, b) = and_true (eq_z p.x q.x) _ g in
        let e : p.x ≡ q.x = eq_z_true p.x q.x a in
        ⊎_elim (λ l. omega (arith, ap biased e, less_biased p.y q.y c.y d.y l, pz)) (past_y e) (or_true (lt_z p.y q.y) _ b)

module _ (p q : Pos) (c : Held 1000001 p) (d : Held 1000001 q) where
  pub before_ltb : before p q ≡ ltb (packed p) (packed q)
  before_ltb = go (before p q) refl
    where
      go : (b : Bool) → before p q ≡ b → b ≡ ltb (packed p) (packed q)
      go true e = sym (lt-ltb (packed p) (packed q) (before_less p q c d e))
      go false e =
          sym (le-ltb (packed p) (packed q)
          (⊎_elim (λ same. omega (arith, ap packed same)) (λ past. omega (arith, before_less q p d c past)) (at_or_past p q e)))

  -- no two have the same number
  only : packed p ≡ packed q → p ≡ q
  only h =
      ⊎_elim (λ same. same) (λ past. absurd (omega (arith, before_less q p d c past)))
      (at_or_past p q (before_ltb ∙ le-ltb (packed p) (packed q) (omega arith)))

  pub same_eqb : same_pos p q ≡ eqb (packed p) (packed q)
  same_eqb = go (same_pos p q) refl
    where
      go : (b : Bool) → same_pos p q ≡ b → b ≡ eqb (packed p) (packed q)
      go true e = sym (eq-eqb _ _ (ap packed (same_pos_true p q e)))
      go false e = sym (ne_eqb (packed p) (packed q) (λ h. true≢false (sym (rw (only h) (same_pos_refl q)) ∙ e)))
