-- `lines::levels` meets its contract. Assumes nothing.
use mathlib.Core.List.{append_assoc}
use native.Mathlib.Omega.{arith}
use Rattle.text.proofs.Putting.{puts_then}
use Rattle.lines.proofs.levels.Goals as goal

pub returns : goal.returns
returns c = let third = c in
    let second = third in
    let first = second in
    let p = puts_then (puts_then first.small_number-second.ensures.puts second.small_number-third.ensures.puts) third.small_number.ensures.puts in
    record { puts = simp append_assoc (simp append_assoc at p); few = omega (arith, first.small_number-second.ensures.few, second.small_number-third.ensures.few, third.small_number.ensures.few) }
