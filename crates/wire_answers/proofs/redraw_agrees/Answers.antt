-- `wire_answers::redraw_agrees` meets its contract: the table that is lent is a copy. Assumes nothing.
use mathlib.Core.Path.{◌≡◌}
use lib.ListN.{length, take}
use borrow.Author.Tests.{lt-leb, le-leb}
use Rattle.records.proofs.Copies.{front_copied}
use Rattle.wire_answers.specs.Answers.{redraw_agrees}
use Rattle.wire_answers.proofs.redraw_agrees.Goals as goal

pub returns-then-bytes-gt-MOST_BYTES : goal.returns-then-bytes-gt-MOST_BYTES
unfolding redraw_agrees
returns-then-bytes-gt-MOST_BYTES c = rw (lt-leb _ 2048 c.if-bytes-gt-MOST_BYTES.true)

pub returns : goal.returns
unfolding redraw_agrees
returns c = let table = c.args.table.now in
    let lent : take (length table) c.copied-redrawn.result ≡ table = rw c.copied-redrawn.ensures (front_copied table c.if-bytes-gt-MOST_BYTES.false) in
    rw (le-leb _ 2048 c.if-bytes-gt-MOST_BYTES.false, ← lent) c.redraw_agrees_in.ensures
