-- `lines::line_of` meets its contract. Assumes nothing.
use Rattle.lines.specs.Lines.{row_text}
use Rattle.text.proofs.Putting.{puts_then}
use Rattle.lines.proofs.line_of.Goals as goal

pub returns-clause-puts : goal.returns-clause-puts
unfolding row_text
returns-clause-puts c =
    puts_then (rw c.pos_of.ensures at c.place-next.ensures.puts) (rw (c.byte_at.ensures, c.byte_at-2.ensures, c.byte_at-3.ensures) at c.levels.ensures.puts)
