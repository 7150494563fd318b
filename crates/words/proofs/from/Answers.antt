-- `words::from` meets its contract: what is dropped past the end leaves nothing. Assumes nothing.
use mathlib.Core.Path.{sym}
use Prim.Native.Nat.{◌-◌}
use native.Mathlib.Omega.{arith}
use lib.ListN.{length, drop, length-drop, drop_of_length-le}
use lib.Seq.{take_all}
use Rattle.words.proofs.from.Goals as goal

pub returns-then-at-s : goal.returns-then-at-s
returns-then-at-s c = let a = c.args in
    take_all (length a.s.now - a.at) (drop a.at a.s.now) (rw length-drop (omega arith))

pub returns : goal.returns
returns c = let a = c.args in sym (drop_of_length-le a.s.now {i = a.at} (omega arith))
