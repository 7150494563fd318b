-- `text::digits_then` meets its contract. Assumes nothing.
use mathlib.Core.Path.{◌≡◌, sym, ◌∙◌}
use Prim.Native.Nat.{ℕ}
use native.Mathlib.Omega.{arith}
use lib.ListN.{take}
use Rattle.columns.specs.Column.{Bytes}
use Rattle.io.specs.Digits.{last_digits, IsDigitCount}
use Rattle.text.specs.Text.{decimal_of}
use Rattle.text.proofs.Decimal.{decimal_is}
use Rattle.text.proofs.Putting.{puts_more, puts_length}
use Rattle.text.proofs.digits_then.Goals as goal

-- what the array holds
text : (n k : ℕ) (digits : Bytes) → take k digits ≡ last_digits 10 k n → IsDigitCount 10 1 n k → take k digits ≡ decimal_of n
text n k digits e f = e ∙ sym (decimal_is n k f)

pub bytes-last-requires : goal.bytes-last-requires
bytes-last-requires c = let d = c.decimal-count in rw (text _ _ d.new.out d.ensures.digits d.ensures.len) (omega arith)

pub bounds-out-last : goal.bounds-out-last
bounds-out-last c = let d = c.decimal-count in
    let p = rw (text _ _ d.new.out d.ensures.digits d.ensures.len) at c.bytes-last.ensures in
    omega (arith, p.end, puts_length p)

pub returns : goal.returns
returns c = let d = c.decimal-count in
    let p = rw (text _ _ d.new.out d.ensures.digits d.ensures.len) at c.bytes-last.ensures in
    puts_more p _ (omega (arith, p.end, puts_length p))
