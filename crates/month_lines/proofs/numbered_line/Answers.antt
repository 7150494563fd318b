-- `month_lines::numbered_line` meets its contract. Assumes nothing.
use mathlib.Core.List.{append_assoc}
use native.Mathlib.Omega.{arith}
use Rattle.text.proofs.Putting.{puts_then}
use Rattle.month_lines.specs.Lines.{numbered_line}
use Rattle.month_lines.proofs.numbered_line.Goals as goal

pub returns : goal.returns
unfolding numbered_line
returns c = let figure = c in
    let number = figure in
    let name = number in
    let p = puts_then (puts_then name.bytes-number.ensures number.number-figure.ensures.puts) figure.number.ensures.puts in
    record { puts = simp append_assoc (simp append_assoc at p); few = omega (arith, name.bytes-number.ensures.end, number.number-figure.ensures.few, figure.number.ensures.few) }
