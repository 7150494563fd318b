-- `world::row::arm_entry` meets its contract. Assumes nothing.
use borrow.Author.Tests.{lt-leb, le-leb}
use Rattle.world.specs.Rows.{arm_entry}
use Rattle.places.specs.Places.{North, West}
use Rattle.world.proofs.row.arm_entry.Goals as goal

pub returns-then-facing-lt-NORTH : goal.returns-then-facing-lt-NORTH
unfolding arm_entry
returns-then-facing-lt-NORTH c = rw (lt-leb North c.args.facing c.if-facing-lt-NORTH.true)

pub returns-then-facing-gt-WEST : goal.returns-then-facing-gt-WEST
unfolding arm_entry
returns-then-facing-gt-WEST c = rw (le-leb North c.args.facing c.if-facing-lt-NORTH.false, lt-leb c.args.facing West c.if-facing-gt-WEST.true)

pub returns : goal.returns
unfolding arm_entry
returns c = let f = c.args.facing in
    rw (le-leb North f c.if-facing-lt-NORTH.false, le-leb f West c.if-facing-gt-WEST.false, ← c.from.ensures) c.byte_of.ensures
