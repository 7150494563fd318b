-- Answers of `book::table::put_line`.
use mathlib.Core.Path.{refl}
use native.Mathlib.Numerals.{add-one}
use Rattle.book.specs.Tables.{put_line}
use Rattle.book.proofs.table.put_line.Goals as goal

pub loop-i-init : goal.loop-i-init
unfolding put_line
loop-i-init c = refl

pub loop-i-preserved : goal.loop-i-preserved
unfolding put_line
loop-i-preserved c = rw (add-one, ← c.loop-i.invariant) c.put_block.ensures
