-- `classes::towards::charges_in` meets its contract. Assumes nothing.
use borrow.Author.Tests.{lt-ltb, le-ltb}
use Rattle.classes.proofs.towards.charges_in.Goals as goal

pub returns-then-k-lt6 : goal.returns-then-k-lt6
returns-then-k-lt6 c = rw (lt-ltb _ 6 c.if-k-lt6.true) (cc)

pub returns : goal.returns
returns c = rw (le-ltb _ 6 c.if-k-lt6.false) (cc)
