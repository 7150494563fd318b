-- Answers of `keys::search::any_within`.
use borrow.Author.Rules.{rules}
use mathlib.Core.Path.{◌≡◌, sym}
use native.Mathlib.Omega.{arith}
use Rattle.keys.proofs.Searching.{any_none, any_more}
use Rattle.keys.proofs.search.any_within.Goals as goal

pub loop-i-init : goal.loop-i-init
loop-i-init c = (search rules, search rules, sym (any_none _ _ _ _))

pub loop-i-preserved : goal.loop-i-preserved
loop-i-preserved c = let l = c in
    (omega arith, omega arith, rw (l.loop-i.invariant.2, c.is_within-any.ensures) (sym (any_more _ _ _ _ _ l.loop-i.invariant.0)))

pub returns : goal.returns
returns c = let start = c in
    let full : c.loop-i.i ≡ start.args.to = omega arith in
    rw full at c.loop-i.invariant.2
