-- `records::entry` meets its contract: past the end the definition has 0 too. Assumes nothing.
use mathlib.Core.Path.{◌≡◌}
use mathlib.Core.List.{[]}
use Prim.Native.Nat.{◌*◌}
use native.Mathlib.Omega.{arith}
use lib.ListN.{drop, drop_of_length-le}
use Rattle.records.proofs.entry.Goals as goal

pub returns-then-s-i : goal.returns-then-s-i
returns-then-s-i c = let a = c.args in
    let none : drop (a.i * 2) a.s.now ≡ [] = drop_of_length-le a.s.now {i = a.i * 2} (omega arith) in
    rw none

pub returns : goal.returns
returns c = rw (← c.from.ensures) c.half.ensures.0
