-- `classes::towards::leads_in` meets its contract. Assumes nothing.
use borrow.Author.Tests.{lt-ltb, le-ltb}
use Rattle.classes.proofs.towards.leads_in.Goals as goal

pub returns-then-k-lt4 : goal.returns-then-k-lt4
returns-then-k-lt4 c = rw (lt-ltb _ 4 c.if-k-lt4.true) (cc)

pub returns : goal.returns
returns c = rw (le-ltb _ 4 c.if-k-lt4.false) (cc)
