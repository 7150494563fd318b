-- `probe::numbers::place_coordinate` meets its contract, by the place's cases. Assumes nothing.
use mathlib.Core.Path.{◌∙◌}
use borrow.Author.Rules.{sfits_of}
use mir.Syntax.{w32}
use mir.Val.{SFits}
use Rattle.places.proofs.Signs.{back32}
use Rattle.probe.proofs.numbers.place_coordinate.Goals as goal

pub returns-in-Some : goal.returns-in-Some
returns-in-Some c = let r : SFits w32 c.coordinate.result = sfits_of c.coordinate.type_inv in
    rw c.in-Some.is (back32 _ r ∙ c.coordinate.ensures)

pub returns-in-None : goal.returns-in-None
returns-in-None c = rw c.in-None.is
