-- `month_lines::all_lines` meets its contract: one part after the other. Assumes nothing.
use Rattle.text.proofs.Putting.{puts_then}
use Rattle.month_lines.specs.Lines.{month_text}
use Rattle.month_lines.proofs.all_lines.Goals as goal

pub returns : goal.returns
unfolding month_text
returns c =
    let tables = puts_then c.line-second.ensures.puts c.line-third.ensures.puts in
    puts_then (puts_then (puts_then tables c.numbered_lines-fourth.ensures.puts) c.numbered_lines-last.ensures.puts) c.ended_line.ensures
