-- `classes::towards::touched_in` meets its contract. Assumes nothing.
use mathlib.Core.Bool.{and-true}
use borrow.Author.Tests.{lt-ltb, le-ltb}
use Rattle.classes.proofs.towards.touched_in.Goals as goal

pub returns-then-k-lt4 : goal.returns-then-k-lt4
returns-then-k-lt4 c = rw (lt-ltb _ 4 c.if-k-lt4.true) (cc)

pub returns : goal.returns
returns c = rw (le-ltb _ 4 c.if-k-lt4.false, and-true) c.is_dust_in-2.ensures
