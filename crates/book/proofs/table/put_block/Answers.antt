-- `book::table::put_block` meets its contract. Assumes nothing.
use mathlib.Core.Path.{◌∙◌}
use lib.ListN.{length-set}
use borrow.Author.Tests.{lt-ltb, le-ltb}
use Rattle.book.specs.Tables.{put_block}
use Rattle.book.proofs.table.put_block.Goals as goal

pub shape_of-t : goal.shape_of-t
shape_of-t c = let first = c.write_word in
    let second = c.write_word-then-row-t in
    length-set second.new.bytes _ _ ∙ second.auto.bytes ∙ first.auto.bytes

pub returns-then-row-t : goal.returns-then-row-t
unfolding put_block
returns-then-row-t c = let first = c in
    let inside = first.if-row-t.true in
    rw (lt-ltb _ _ inside, c.write_word-then-row-t.ensures, first.write_word.ensures)

pub returns-else-row-t : goal.returns-else-row-t
unfolding put_block
returns-else-row-t c = rw (le-ltb _ _ c.if-row-t.false)
