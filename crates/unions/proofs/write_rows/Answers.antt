-- Answers of `unions::write_rows`.
use Rattle.std.proofs.Common.{◌≡◌, ◌+◌, ◌-◌, ◌*◌, arith}
use Rattle.unions.proofs.Writing.{writing_room, writing_more, writing_all}
use Rattle.unions.proofs.Steps.{taken}
use Rattle.unions.proofs.write_rows.Goals as goal

pub slice_bounds-copy_next-end : goal.slice_bounds-copy_next-end
slice_bounds-copy_next-end c =
    let (on, _, first, second, writing) = c.loop-next.invariant in
    omega (arith, writing_room writing (taken _ _ _ c.in-Some.next _ on first second c.in-Some.ensures.steps).step c.requires.second_in_bounds)

pub copy_next-requires-clause-within : goal.copy_next-requires-clause-within
copy_next-requires-clause-within c =
    let (on, _, first, second, _) = c.loop-next.invariant in
    (taken _ _ _ c.in-Some.next _ on first second c.in-Some.ensures.steps).step.within

pub loop-next-preserved : goal.loop-next-preserved
loop-next-preserved c =
    let (on, _, first, second, writing) = c.loop-next.invariant in
    let t = taken _ _ _ c.in-Some.next _ on first second c.in-Some.ensures.steps in
    let size : c.loop-next.count * 32 + 32 - c.loop-next.count * 32 ≡ 32 = omega arith in
    (c.in-Some.ensures.goes.keeps, tt, t.first, t.second, rw (size, t.i, t.j) (writing_more writing t.step c.requires.second_in_bounds c.copy_next.ensures))

pub returns : goal.returns
returns c =
    let (_, _, first, second, writing) = c.loop-next.invariant in
    writing_all writing (rw (first, second) at c.in-None.ensures.steps)
