-- Answers of `keys::search::next_within`.
use mathlib.Core.Path.{◌≡◌}
use native.Mathlib.Omega.{arith}
use lib.ListN.{length}
use Rattle.keys.proofs.Searching.{skipped_row, skipped_on}
use Rattle.keys.proofs.search.next_within.Goals as goal

pub returns-then-is_within : goal.returns-then-is_within
returns-then-is_within c = record { skipped = c.loop-p.invariant; found = λ _. (cc) }

pub loop-p-preserved : goal.loop-p-preserved
loop-p-preserved c = skipped_on c.loop-p.invariant (skipped_row (omega arith) (cc))

pub returns : goal.returns
returns c =
    let full : c.loop-p.p ≡ length c.args.keys.now = omega (arith, c.loop-p.invariant.inside) in
    record { skipped = rw full at c.loop-p.invariant; found = λ l. absurd (omega arith) }
