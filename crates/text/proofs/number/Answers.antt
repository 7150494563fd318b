-- `text::number` meets its contract: 64 bits have at most twenty digits. Assumes nothing.
use native.Mathlib.Omega.{arith}
use lib.ListN.{length-append}
use Rattle.text.proofs.Decimal.{decimal_few}
use Rattle.text.proofs.number.Goals as goal

pub digits_then-requires : goal.digits_then-requires
digits_then-requires c = omega (arith, decimal_few c.args.n 19 (omega (arith, c.ranges.n)))

pub returns : goal.returns
returns c = let p = c.digits_then.ensures in
    record { puts = p; few = omega (arith, simp length-append at p.end, decimal_few c.args.n 19 (omega (arith, c.ranges.n))) }
