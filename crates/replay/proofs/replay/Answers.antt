-- Answers of `replay::replay`.
use mathlib.Core.Path.{◌≡◌, sym, ◌∙◌}
use mathlib.Core.Bool.{true, false}
use Prim.Native.Nat.{◌+◌}
use Rattle.replay.specs.Operations.{is_right}
use Rattle.replay.specs.Replay.{starts_whole, first_record, count_if}
use Rattle.replay.proofs.Tallies.{counted, replayed_none, replayed_more, replayed_all}
use Rattle.replay.proofs.replay.Goals as goal

pub loop-right-init : goal.loop-right-init
loop-right-init c = replayed_none c.args.s.now

pub loop-right-preserved : goal.loop-right-preserved
loop-right-preserved c =
    let rest = c.loop-right.rest.now in
    let whole : starts_whole rest ≡ true = sym c.starts_whole.ensures ∙ c.loop-right-test.true in
    let count : c.loop-right.right + c.from-right.result ≡ count_if (is_right (first_record rest)) c.loop-right.right = rw (c.from-right.ensures, c.first_is_right.ensures) (counted (is_right (first_record rest)) c.loop-right.right) in
    rw (count, c.from-rest.ensures, c.taken.ensures) (replayed_more c.loop-right.invariant whole)

pub returns : goal.returns
returns c =
    let over : starts_whole c.loop-right.rest.now ≡ false = sym c.starts_whole.ensures ∙ c.loop-right-test.false in
    rw c.is_empty.ensures (sym (replayed_all c.loop-right.invariant over))
