-- `text::line` meets its contract. Assumes nothing.
use mathlib.Core.List.{append_assoc}
use native.Mathlib.Omega.{arith}
use Rattle.text.specs.Text.{line_of}
use Rattle.text.proofs.Putting.{puts_then}
use Rattle.text.proofs.line.Goals as goal

pub returns : goal.returns
unfolding line_of
returns c = let number = c in
    let name = number in
    record { puts = rw append_assoc (puts_then name.bytes-start.ensures number.number.ensures.puts); few = omega (arith, name.bytes-start.ensures.end, number.number.ensures.few) }
