-- `words::front` meets its contract. Assumes nothing.
use mathlib.Core.Path.{sym}
use native.Mathlib.Nat.{sub-zero}
use native.Mathlib.Omega.{arith}
use lib.Seq.{take_all}
use Rattle.words.proofs.front.Goals as goal

pub returns-then-count-s : goal.returns-then-count-s
returns-then-count-s c = rw sub-zero

pub returns : goal.returns
returns c = let a = c.args in sym (take_all a.count a.s.now (omega arith))
