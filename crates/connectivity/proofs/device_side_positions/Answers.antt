-- `connectivity::device_side_positions` meets its contract, by what the look-up finds. Assumes nothing.
use mathlib.Core.Path.{sym, ◌∙◌}
use Rattle.connectivity.specs.Ports.{device_side_positions}
use Rattle.connectivity.proofs.device_side_positions.Goals as goal

pub returns-in_default : goal.returns-in_default
unfolding device_side_positions
returns-in_default c = rw (sym c.find.ensures ∙ c.in_default.is)

pub returns : goal.returns
unfolding device_side_positions
returns c = rw (sym c.find.ensures ∙ c.in-At.is) c.sides_of.ensures
