-- `replace::at_most_two_more` meets its contract. Assumes nothing.
use native.Mathlib.Omega.{arith}
use lib.IntN.{pos}
use mir.Syntax.{w32}
use mir.Val.{SFits}
use Rattle.places.proofs.Signs.{up, back32, back64, sum_fits}
use Rattle.replace.proofs.at_most_two_more.Goals as goal

two : SFits w32 (pos 2)
two = record { sfits = omega arith }

pub overflow_cast-result : goal.overflow_cast-result
overflow_cast-result c = rw (back32 _ c.ranges.a) (up c.ranges.a)

pub overflow_cast-result-2 : goal.overflow_cast-result-2
overflow_cast-result-2 c = rw (back32 _ c.ranges.b) (up c.ranges.b)

pub overflow_add-result : goal.overflow_add-result
overflow_add-result c = rw (back32 _ c.ranges.b, back64 _ (up c.ranges.b)) (sum_fits _ _ c.ranges.b two)

pub returns : goal.returns
returns c = rw (back32 _ c.ranges.a, back32 _ c.ranges.b, back64 _ (up c.ranges.a), back64 _ (up c.ranges.b), back64 _ (sum_fits _ _ c.ranges.b two))
