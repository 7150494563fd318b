-- `tick_calls::ticks_in` meets its contract. Assumes nothing.
use Rattle.calls.proofs.Agreeing.{ticks_agree}
use Rattle.tick_calls.proofs.ticks_in.Goals as goal

pub returns : goal.returns
returns c = let compared = c in
    let numbered = compared in
    let called = numbered in
    let read = called in
    let first = read in
    let ticks = rw (first.slice_of.ensures, read.slice_of-2.ensures, read.number.ensures, read.number-2.ensures) at called.redstone_tick-answered.ensures in
    rw (c.columns_agree.ensures, compared.same.ensures, compared.slice_of-3.ensures, numbered.number-3.ensures) (ticks_agree first.args.r.now ticks)
