-- `lines::settled` meets its contract. Assumes nothing.
use Rattle.lines.specs.Lines.{settled_text}
use Rattle.text.proofs.Putting.{puts_then}
use Rattle.lines.proofs.settled.Goals as goal

pub returns : goal.returns
unfolding settled_text
returns c =
    let blocks = rw c.rows.ensures at c.line-second.ensures.puts in
    let rounds = rw c.from.ensures at c.line-third.ensures.puts in
    puts_then (puts_then blocks rounds) c.rows-2.ensures
