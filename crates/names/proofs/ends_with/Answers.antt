-- `names::ends_with` meets its contract. Assumes nothing.
use mathlib.Core.Path.{◌≡◌}
use Prim.Native.Nat.{◌-◌}
use native.Mathlib.Omega.{arith}
use lib.Seq.{take_all}
use lib.ListN.{length, take, drop, length-drop}
use borrow.Author.Tests.{lt-leb, le-leb}
use lib.ListN.{length}
use Rattle.names.proofs.ends_with.Goals as goal

pub returns-then-s-end : goal.returns-then-s-end
returns-then-s-end c = rw (lt-leb _ _ c.if-s-end.true)

pub returns : goal.returns
returns c = let a = c.args in
    let k = length a.s.now - length a.end.now in
    let whole : take (length a.s.now - k) (drop k a.s.now) ≡ drop k a.s.now = take_all (length a.s.now - k) (drop k a.s.now) (rw length-drop (omega arith)) in
    rw (le-leb _ _ c.if-s-end.false, ← whole) c.same.ensures
