-- `text::signed` meets its contract: a magnitude of 32 bits has at most ten digits. Assumes nothing.
use mathlib.Core.Path.{◌≡◌, ◌∙◌}
use mathlib.Core.List.{append_assoc}
use native.Mathlib.Omega.{arith}
use lib.IntN.{nat_abs}
use lib.ListN.{length-append}
use Rattle.places.proofs.Signs.{back32}
use Rattle.text.specs.Text.{signed_text}
use Rattle.text.proofs.Decimal.{decimal_few}
use Rattle.text.proofs.Putting.{puts_then}
use Rattle.text.proofs.signed.Goals as goal

pub digits_then-requires : goal.digits_then-requires
digits_then-requires c = omega (arith, decimal_few c.from.result 9 (omega (arith, c.from.ensures, c.unsigned_abs.ensures.bound)), c.sign-start.ensures.few)

pub returns : goal.returns
unfolding signed_text
returns c =
    let back = back32 c.args.x c.ranges.x in
    let size : c.from.result ≡ nat_abs c.args.x = c.from.ensures ∙ rw back at c.unsigned_abs.ensures.value in
    let p = puts_then (rw back at c.sign-start.ensures.puts) c.digits_then.ensures in
    record { puts = rw (append_assoc, ← size) p; few = omega (arith, c.sign-start.ensures.few, simp length-append at c.digits_then.ensures.end, decimal_few c.from.result 9 (omega (arith, c.from.ensures, c.unsigned_abs.ensures.bound))) }
