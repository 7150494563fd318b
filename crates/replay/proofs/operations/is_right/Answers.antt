-- `replay::operations::is_right` meets its contract, by the operation. Assumes nothing.
use native.Mathlib.Omega.{arith}
use borrow.Author.Tests.{ne_eqb}
use Rattle.replay.specs.Operations.{is_right}
use Rattle.replay.proofs.operations.is_right.Goals as goal

pub returns-in-1 : goal.returns-in-1
unfolding is_right
returns-in-1 c = rw (← c.byte_at-operation.ensures, c.in-1.is) c.traits_right.ensures

pub returns-in-2 : goal.returns-in-2
unfolding is_right
returns-in-2 c = rw (← c.byte_at-operation.ensures, c.in-2.is) c.shape_right.ensures

pub returns-in-3 : goal.returns-in-3
unfolding is_right
returns-in-3 c = rw (← c.byte_at-operation.ensures, c.in-3.is) c.find_right.ensures

pub returns-in-4 : goal.returns-in-4
unfolding is_right
returns-in-4 c = rw (← c.byte_at-operation.ensures, c.in-4.is) c.supports_right.ensures

pub returns-in-5 : goal.returns-in-5
unfolding is_right
returns-in-5 c = rw (← c.byte_at-operation.ensures, c.in-5.is) c.properties_right.ensures

pub returns-in-6 : goal.returns-in-6
unfolding is_right
returns-in-6 c = rw (← c.byte_at-operation.ensures, c.in-6.is) c.offset_right.ensures

pub returns-in-7 : goal.returns-in-7
unfolding is_right
returns-in-7 c = rw (← c.byte_at-operation.ensures, c.in-7.is) c.arms_right.ensures

pub returns-in-8 : goal.returns-in-8
unfolding is_right
returns-in-8 c = rw (← c.byte_at-operation.ensures, c.in-8.is) c.transfer_right.ensures

pub returns-in-9 : goal.returns-in-9
unfolding is_right
returns-in-9 c = rw (← c.byte_at-operation.ensures, c.in-9.is) c.redraw_right.ensures

pub returns-in-10 : goal.returns-in-10
unfolding is_right
returns-in-10 c = rw (← c.byte_at-operation.ensures, c.in-10.is) c.settle_right.ensures

pub returns-in-11 : goal.returns-in-11
unfolding is_right
returns-in-11 c = rw (← c.byte_at-operation.ensures, c.in-11.is) c.fresh_right.ensures

pub returns-in-12 : goal.returns-in-12
unfolding is_right
returns-in-12 c = rw (← c.byte_at-operation.ensures, c.in-12.is) c.ticks_right.ensures

pub returns-in-13 : goal.returns-in-13
unfolding is_right
returns-in-13 c = rw (← c.byte_at-operation.ensures, c.in-13.is) c.switch_right.ensures

pub returns-in_default : goal.returns-in_default
unfolding is_right
returns-in_default c = let o = c.byte_at-operation in
    rw (← o.ensures, ne_eqb o.result 1 (λ e. omega arith), ne_eqb o.result 2 (λ e. omega arith), ne_eqb o.result 3 (λ e. omega arith), ne_eqb o.result 4 (λ e. omega arith), ne_eqb o.result 5 (λ e. omega arith), ne_eqb o.result 6 (λ e. omega arith), ne_eqb o.result 7 (λ e. omega arith), ne_eqb o.result 8 (λ e. omega arith), ne_eqb o.result 9 (λ e. omega arith), ne_eqb o.result 10 (λ e. omega arith), ne_eqb o.result 11 (λ e. omega arith), ne_eqb o.result 12 (λ e. omega arith), ne_eqb o.result 13 (λ e. omega arith))
