-- `answers::shape_agrees` meets its contract. Assumes nothing.
use Rattle.answers.specs.Answers.{shape_agrees}
use Rattle.answers.proofs.shape_agrees.Goals as goal

pub returns : goal.returns
unfolding shape_agrees
returns c = rw (c.probe_shape_of_name.ensures, c.from.ensures)
