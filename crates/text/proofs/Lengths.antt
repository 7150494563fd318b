-- Laws of lengths: how long a number and a line can be.
-- Assumes nothing.
use Prim.Native.Nat.{ℕ, suc, ◌+◌, ◌^◌, ◌≤◌, ◌<◌, zero-le}
use native.Mathlib.Omega.{arith}
use lib.ListN.{length, length-append}
use lib.IntN.{ℤ, pos, negsuc, nat_abs}
use Rattle.columns.specs.Column.{Bytes}
use Rattle.text.specs.Text.{sign_text, signed_text, line_of}
use Rattle.text.proofs.Decimal.{decimal_few}

pub sign_few : (z : ℤ) → length (sign_text z) ≤ 1
sign_few (pos n) = zero-le
sign_few (negsuc n) = omega arith

-- a signed number of at most k + 1 digits
pub signed_few : (z : ℤ) (k : ℕ) → nat_abs z < 10 ^ suc k → length (signed_text z) ≤ k + 2
unfolding signed_text
signed_few z k h = simp length-append (omega (arith, sign_few z, decimal_few (nat_abs z) k h))

-- a line with a number of at most k + 1 digits
pub line_few : (name : Bytes) (n k : ℕ) → n < 10 ^ suc k → length (line_of name n) ≤ length name + k + 2
unfolding line_of
line_few name n k h = simp length-append (omega (arith, decimal_few n k h))
