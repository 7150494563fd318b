-- `places::Pos::same` meets its contract: the derived test is coordinate by coordinate. Assumes nothing.
use mathlib.Core.Path.{◌∙◌}
use Rattle.places.proofs.Signs.{same_is}
use Rattle.places.proofs.Pos.same.Goals as goal

pub returns : goal.returns
returns c = c.eq.ensures ∙ same_is _ _
