-- `text::small_number` meets its contract: a number below 100 has at most two digits. Assumes nothing.
use native.Mathlib.Omega.{arith}
use lib.ListN.{length-append}
use Rattle.text.proofs.Decimal.{decimal_few}
use Rattle.text.proofs.small_number.Goals as goal

pub digits_then-requires : goal.digits_then-requires
digits_then-requires c = rw c.from.ensures (omega (arith, decimal_few c.args.n 1 (omega (arith, c.requires.0))))

pub returns : goal.returns
returns c = let p = rw c.from.ensures at c.digits_then.ensures in
    record { puts = p; few = omega (arith, simp length-append at p.end, decimal_few c.args.n 1 (omega (arith, c.requires.0))) }
