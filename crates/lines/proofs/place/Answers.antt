-- `lines::place` meets its contract. Assumes nothing.
use mathlib.Core.List.{append_assoc}
use native.Mathlib.Omega.{arith}
use mir.Syntax.{w32}
use mir.Val.{SFits}
use borrow.Author.Rules.{rules}
use Rattle.places.proofs.Signs.{back32}
use Rattle.text.proofs.Putting.{puts_then}
use Rattle.lines.proofs.place.Goals as goal

pub returns : goal.returns
returns c = let third = c in
    let second = third in
    let first = second in
    let name = first in
    let s = name in
    let q = s.args.q in
    let fit : SFits w32 q.x × SFits w32 q.y × SFits w32 q.z = (search rules, search rules, search rules) in
    let x = first.signed-y.ensures in
    let y = second.signed-z.ensures in
    let z = third.signed.ensures in
    let p = puts_then (puts_then (puts_then name.bytes-x.ensures x.puts) y.puts) z.puts in
    record { puts = simp append_assoc (rw (← back32 q.x fit.0, ← back32 q.y fit.1, ← back32 q.z fit.2) (simp append_assoc at p)); few = omega (arith, name.bytes-x.ensures.end, x.few, y.few, z.few) }
