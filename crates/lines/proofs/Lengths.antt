-- Laws of lengths: how long the line of a row and the text of a refusal can be.
-- Assumes nothing.
use Prim.Native.Nat.{ℕ, ◌≤◌, ◌<◌}
use native.Mathlib.Omega.{arith}
use lib.ListN.{length, length-append}
use lib.Signed.{nat_abs-le}
use Rattle.columns.specs.Signal.{max_signal}
use Rattle.columns.specs.Ascii.{ascii}
use Rattle.places.specs.declared.Pos.{Pos}
use Rattle.places.proofs.Steps.{InRange}
use Rattle.text.proofs.Decimal.{decimal_few}
use Rattle.text.proofs.Lengths.{signed_few, line_few}
use Rattle.lines.specs.Lines.{row_text, refusal_text}

pub row_few : (q : Pos) (signal weak strong : ℕ) → InRange q → signal ≤ max_signal → weak ≤ max_signal → strong ≤ max_signal → length (row_text q signal weak strong) ≤ 40
unfolding row_text
row_few q signal weak strong r hs hw hg =
    simp length-append
    (omega (
      arith,
      signed_few q.x 6 (omega (arith, nat_abs-le q.x {H = 1000001} (omega (arith, r.x)))),
      signed_few q.y 6 (omega (arith, nat_abs-le q.y {H = 1000001} (omega (arith, r.y)))),
      signed_few q.z 6 (omega (arith, nat_abs-le q.z {H = 1000001} (omega (arith, r.z)))),
      decimal_few signal 1 (omega arith),
      decimal_few weak 1 (omega arith),
      decimal_few strong 1 (omega arith),
    ))

pub refusal_few : (n i : ℕ) → n < 100 → i < 10000 → length (refusal_text n i) ≤ 22
unfolding refusal_text
refusal_few n i g h =
    rw length-append (omega (arith, line_few (ascii "refusal=") n 1 g, line_few (ascii "place=") i 3 h))
