-- Answers of `keys::pass::pass_level`.
use native.Mathlib.Omega.{arith}
use Rattle.spread.specs.Spread.{spread_from}
use Rattle.keys.proofs.Passing.{Bounds, within_level, passing_none, passing_skip, passing_more, passing_all}
use Rattle.keys.proofs.pass.pass_level.Goals as goal

pub loop-j-init : goal.loop-j-init
loop-j-init c =
    let bounds : Bounds _ _ _ = record { is_low = c.own_key-low.ensures; is_high = c.own_key-high.ensures } in
    (bounds, passing_skip (passing_none c.requires.0) bounds c.next_within-j.ensures.skipped, c.next_within-j.ensures.found)

pub overflow_sub-keys : goal.overflow_sub-keys
overflow_sub-keys c = let inv = c.loop-j.invariant in
    let (above, below) = within_level inv.0 _ (inv.2 (omega arith)) in
    omega arith

pub loop-j-smaller : goal.loop-j-smaller
loop-j-smaller c = omega (arith, c.next_within-j-in-loop-j.ensures.skipped.from)

pub loop-j-preserved : goal.loop-j-preserved
unfolding spread_from
loop-j-preserved c =
    let inv = c.loop-j.invariant in
    let more = passing_more inv.1 inv.0 (omega arith) c.requires.1 (inv.2 (omega arith)) c.spread_from.ensures in
    (inv.0, passing_skip more inv.0 c.next_within-j-in-loop-j.ensures.skipped, c.next_within-j-in-loop-j.ensures.found)

pub returns : goal.returns
returns c = passing_all c.loop-j.invariant.1 (omega arith)
