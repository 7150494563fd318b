-- `connectivity::ahead` meets its contract: a number outside North to West is no horizontal facing. Assumes nothing.
use Rattle.std.proofs.Common.{Some}
use mathlib.Core.Path.{ap}
use borrow.Author.Tests.{lt-leb, le-leb}
use Rattle.places.specs.Places.{North, West}
use Rattle.connectivity.specs.Ports.{ahead}
use Rattle.connectivity.proofs.ahead.Goals as goal

pub returns-then-code-lt-NORTH : goal.returns-then-code-lt-NORTH
unfolding ahead
returns-then-code-lt-NORTH c = rw (lt-leb North c.args.facing.code c.if-code-lt-NORTH.true)

pub returns-then-code-gt-WEST : goal.returns-then-code-gt-WEST
unfolding ahead
returns-then-code-gt-WEST c = let f = c.args.facing.code in
    rw (le-leb North f c.if-code-lt-NORTH.false, lt-leb f West c.if-code-gt-WEST.true)

pub returns : goal.returns
unfolding ahead
returns c = let f = c.args.facing.code in
    rw (le-leb North f c.if-code-lt-NORTH.false, le-leb f West c.if-code-gt-WEST.false) (ap Some c.beside.ensures)
