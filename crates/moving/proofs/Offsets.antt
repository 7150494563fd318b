-- Laws of a position moved by an offset: the code's sums stop at the ends of 32 bits, and none has stopped where the moved position is in range.
-- Assumes nothing.
use mathlib.Core.Path.{◌≡◌, refl}
use mathlib.Core.Bool.{Bool, true, false}
use native.Mathlib.Omega.{arith}
use lib.Dec.{ltb}
use lib.IntN.{ℤ, pos, negsuc, ◌+ℤ◌}
use borrow.Author.Tests.{ltb-true, lt-leb}
use Rattle.places.specs.declared.Pos.{Pos}
use Rattle.places.specs.Signed.{clamp32, sat_add}
use Rattle.places.specs.Places.{offset}
use Rattle.places.proofs.Steps.{sum_exact}
use Rattle.layout.specs.Good.{in_range, good_place}
use Rattle.layout.proofs.Fields.{good_range}
use Rattle.moving.specs.Move.{moved_by}

-- a number stopped at an end of 32 bits is in range just where it was
clamp_range : (z : ℤ) → in_range (clamp32 z) ≡ in_range z
unfolding clamp32
clamp_range (pos n) = go (ltb 2147483647 n) refl
  where
    go : (b : Bool) → ltb 2147483647 n ≡ b → in_range (clamp32 (pos n)) ≡ in_range (pos n)
    go true e = rw (e, lt-leb n 1000000 (omega (arith, ltb-true 2147483647 n e)))
    go false e = rw e
clamp_range (negsuc n) = go (ltb 2147483647 n) refl
  where
    go : (b : Bool) → ltb 2147483647 n ≡ b → in_range (clamp32 (negsuc n)) ≡ in_range (negsuc n)
    go true e = rw (e, lt-leb n 999999 (omega (arith, ltb-true 2147483647 n e)))
    go false e = rw e

sum_range : (a d : ℤ) → in_range (sat_add a d) ≡ in_range (a +ℤ d)
unfolding sat_add
sum_range a d = clamp_range (a +ℤ d)

module _ (by q : Pos) where
  -- the code's position is in range where the moved one is
  pub offset_place : good_place (offset q by.x by.y by.z) ≡ good_place (moved_by by q)
  unfolding good_place
  offset_place = rw (sum_range q.x by.x, sum_range q.y by.y, sum_range q.z by.z)

  -- and then they are the same
  pub offset_moved : good_place (moved_by by q) ≡ true → offset q by.x by.y by.z ≡ moved_by by q
  offset_moved h =
      let r = good_range (moved_by by q) h in
      λ i. record {
        x = sum_exact q.x by.x (omega (arith, r.x)) i;
        y = sum_exact q.y by.y (omega (arith, r.y)) i;
        z = sum_exact q.z by.z (omega (arith, r.z)) i;
      }
