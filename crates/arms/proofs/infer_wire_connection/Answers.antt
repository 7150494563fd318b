-- `arms::infer_wire_connection` meets its contract: a number outside North to West is no horizontal facing. Assumes nothing.
use borrow.Author.Tests.{lt-leb, le-leb}
use Rattle.places.specs.Places.{North, West}
use Rattle.arms.specs.Arms.{infer_wire_connection}
use Rattle.arms.proofs.infer_wire_connection.Goals as goal

pub returns-then-facing-lt-NORTH : goal.returns-then-facing-lt-NORTH
unfolding infer_wire_connection
returns-then-facing-lt-NORTH c = rw (lt-leb North c.args.facing c.if-facing-lt-NORTH.true)

pub returns-then-facing-gt-WEST : goal.returns-then-facing-gt-WEST
unfolding infer_wire_connection
returns-then-facing-gt-WEST c = let f = c.args.facing in
    rw (le-leb North f c.if-facing-lt-NORTH.false, lt-leb f West c.if-facing-gt-WEST.true)

pub returns : goal.returns
unfolding infer_wire_connection
returns c = let f = c.args.facing in
    rw (le-leb North f c.if-facing-lt-NORTH.false, le-leb f West c.if-facing-gt-WEST.false, ← c.beside.ensures) c.infer_past.ensures
