-- Answers of `adjacency::search::walk`.
use borrow.Author.Rules.{rules}
use native.Mathlib.Omega.{arith}
use Rattle.adjacency.proofs.Searching.{walking_none, walking_more, walking_all}
use Rattle.adjacency.proofs.search.walk.Goals as goal

pub loop-i-init : goal.loop-i-init
loop-i-init c = search (walking_none, rules)

pub overflow_add-want : goal.overflow_add-want
overflow_add-want c = omega (arith, c.requires.0.high c.loop-i.i (omega arith))

pub overflow_sub-want : goal.overflow_sub-want
overflow_sub-want c = omega (arith, c.requires.0.low c.loop-i.i (omega arith))

pub advance-p-requires : goal.advance-p-requires
advance-p-requires c = c.loop-i.invariant.passed (omega arith)

pub loop-i-preserved : goal.loop-i-preserved
loop-i-preserved c = let l = c in
    walking_more l.loop-i.invariant l.requires.0 (omega arith) c.advance-p.ensures c.if_is.ensures

pub returns : goal.returns
returns c = walking_all c.loop-i.invariant (omega arith)
