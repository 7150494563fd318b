-- `probe::numbers::side_of` meets its contract, by the sides' cases. Assumes nothing.
use Rattle.probe.proofs.numbers.side_of.Goals as goal

pub returns-then-first : goal.returns-then-first
returns-then-first c = rw (c.in-Some.is, c.if-first.true)

pub returns : goal.returns
returns c = rw (c.in-Some.is, c.if-first.false)
