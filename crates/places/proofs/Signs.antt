-- Laws of signed numbers that the proofs here and above cite. Assumes nothing.
use mathlib.Core.Path.{◌≡◌, refl}
use mathlib.Core.Bool.{Bool, true, false, cond, and_assoc}
use Prim.Native.Nat.{ℕ, suc, ◌-◌, ◌<◌, ◌≤◌}
use native.Mathlib.Omega.{arith}
use lib.Dec.{ltb}
use borrow.Author.Tests.{lt-ltb}
use Rattle.std.specs.Int.{saturate_signed, cast_signed}
use Rattle.std.specs.declared.cmp.Ordering.TheVariants.{Less, Equal, Greater}
use Rattle.std.specs.Ordering.{is_eq, int_eq, int_cmp, is_lt, is_some_and, partial_lt, partial_ordering_then}
use Rattle.std.proofs.Common.{Option, Some, Ordering, ◌||◌, ◌&&◌}
use Rattle.places.specs.declared.Pos.{Pos}
use Rattle.places.specs.Signed.{eq_z, signed32, signed8, clamp32}
use Rattle.places.specs.Places.{same_pos, before}
use lib.IntN.{ℤ, pos, negsuc, ◌+ℤ◌, ◌-ℤ◌, sub_ℕ}
use lib.Signed.{mag, lt_z}
use mir.Syntax.{w8, w32, w64}
use mir.Val.{SFits, to_z, of_z}
use mir.ValLaws.{to_z-of_z}

-- what fits signed 32 bits fits signed 64
pub up : {z : ℤ} → SFits w32 z → SFits w64 z
up f = record { sfits = omega (arith, f.sfits) }

pub back32 : (z : ℤ) → SFits w32 z → to_z w32 (of_z w32 z) ≡ z
back32 z f = to_z-of_z w32 z f

pub back64 : (z : ℤ) → SFits w64 z → to_z w64 (of_z w64 z) ≡ z
back64 z f = to_z-of_z w64 z f

picked_mag : (t : Bool) (m n k : ℕ) → m < k → n < k → mag (cond t (negsuc (n - suc m)) (pos (m - n))) < k
picked_mag true m n k p q = omega arith
picked_mag false m n k p q = omega arith

sub_mag : (m n k : ℕ) → m < k → n < k → mag (sub_ℕ m n) < k
sub_mag m n k p q = picked_mag (ltb m n) m n k p q

pub sum_fits : (a d : ℤ) → SFits w32 a → SFits w32 d → SFits w64 (a +ℤ d)
sum_fits (pos m) (pos n) f g = record { sfits = omega (arith, f.sfits, g.sfits) }
sum_fits (pos m) (negsuc n) f g =
    record { sfits = sub_mag m (suc n) _ (omega (arith, f.sfits)) (omega (arith, g.sfits)) }
sum_fits (negsuc m) (pos n) f g =
    record { sfits = sub_mag n (suc m) _ (omega (arith, g.sfits)) (omega (arith, f.sfits)) }
sum_fits (negsuc m) (negsuc n) f g = record { sfits = omega (arith, f.sfits, g.sfits) }

-- a number's bits, read as a signed number
pub signed32_is : (n : ℕ) → cast_signed w32 n ≡ signed32 n
unfolding signed32
signed32_is n = grind arith

pub signed8_is : (n : ℕ) → cast_signed w8 n ≡ signed8 n
unfolding signed8
signed8_is n = grind arith

-- what the library's saturating sum stops at
pub saturate_is : (z : ℤ) → saturate_signed w32 z ≡ clamp32 z
unfolding clamp32
saturate_is (pos n) = grind arith
saturate_is (negsuc n) = grind arith

int_eq_is : (a b : ℤ) → int_eq a b ≡ eq_z a b
int_eq_is (pos m) (pos n) = grind arith
int_eq_is (pos m) (negsuc n) = refl
int_eq_is (negsuc m) (pos n) = refl
int_eq_is (negsuc m) (negsuc n) = grind arith

-- the derived order of two positions, coordinate by coordinate
first_lt : (a b : ℤ) (o : Option Ordering) → is_some_and is_lt (partial_ordering_then (Some (int_cmp a b)) o) ≡ (lt_z a b || (eq_z a b && is_some_and is_lt o))
first_lt a b o = rw (← int_eq_is a b) (go (lt_z a b) (lt_z b a))
  where
    go : (l g : Bool) → is_some_and is_lt (partial_ordering_then (Some (cond l Less (cond g Greater Equal))) o) ≡ (l || (is_eq (cond l Less (cond g Greater Equal)) && is_some_and is_lt o))
    go true g = refl
    go false true = refl
    go false false = refl

last_lt : (a b : ℤ) → is_lt (int_cmp a b) ≡ lt_z a b
last_lt a b = go (lt_z a b) (lt_z b a)
  where
    go : (l g : Bool) → is_lt (cond l Less (cond g Greater Equal)) ≡ l
    go true g = refl
    go false true = refl
    go false false = refl

pub before_is : (p q : Pos)
    → partial_lt (λ (a b : Pos). partial_ordering_then (Some (int_cmp a.x b.x)) (partial_ordering_then (Some (int_cmp a.y b.y)) (Some (int_cmp a.z b.z)))) p q ≡ before p q
unfolding before
before_is p q = simp (first_lt, last_lt)

-- the derived test of two positions
pub same_is : (p q : Pos) → (int_eq p.x q.x && (int_eq p.y q.y && int_eq p.z q.z)) ≡ same_pos p q
unfolding same_pos
same_is p q = simp (int_eq_is, and_assoc)
