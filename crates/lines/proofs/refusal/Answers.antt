-- `lines::refusal` meets its contract. Assumes nothing.
use Rattle.lines.specs.Lines.{refusal_text}
use Rattle.text.proofs.Putting.{puts_then}
use Rattle.lines.proofs.refusal.Goals as goal

pub returns : goal.returns
unfolding refusal_text
returns c = puts_then (rw c.from.ensures at c.line-next.ensures.puts) (rw c.from-2.ensures at c.line.ensures.puts)
