-- `connectivity::input_of` meets its contract: its facing is the opposite one. Assumes nothing.
use mathlib.Core.Path.{ap, ap₂, ◌∙◌}
use Rattle.places.specs.Places.{opposite}
use Rattle.connectivity.specs.Ports.{ahead, input_of}
use Rattle.connectivity.proofs.input_of.Goals as goal

pub returns : goal.returns
unfolding input_of
returns c = let f = c.facing_of in
    c.ahead.ensures ∙ ap₂ ahead c.pos_of.ensures (c.opposite-back.ensures ∙ ap opposite f.ensures)
