-- Answers of `keys::search::skip_blocks`.
use borrow.Author.Rules.{rules}
use native.Mathlib.Omega.{arith}
use Rattle.keys.proofs.Searching.{skipped_none, skipped_block, skipped_on}
use Rattle.keys.proofs.search.skip_blocks.Goals as goal

pub loop-p-init : goal.loop-p-init
loop-p-init c = search (skipped_none, rules)

pub loop-p-preserved : goal.loop-p-preserved
loop-p-preserved c = let l = c in
    skipped_on l.loop-p.invariant (skipped_block (omega arith) (omega arith) (cc))
