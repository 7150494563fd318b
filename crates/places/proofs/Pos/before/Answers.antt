-- `places::Pos::before` meets its contract: the derived order is by one coordinate after the other. Assumes nothing.
use mathlib.Core.Path.{◌∙◌}
use Rattle.places.proofs.Signs.{before_is}
use Rattle.places.proofs.Pos.before.Goals as goal

pub returns : goal.returns
returns c = c.lt.ensures ∙ before_is _ _
