-- `moving::on_ground` meets its contract. Assumes nothing.
use mathlib.Core.Path.{sym, ◌∙◌}
use Rattle.moving.specs.Move.{on_ground}
use Rattle.moving.proofs.on_ground.Goals as goal

pub returns-then-good_offset : goal.returns-then-good_offset
unfolding on_ground
returns-then-good_offset c = rw (sym c.good_offset.ensures ∙ c.if-good_offset.true) c.rows_stay.ensures

pub returns : goal.returns
unfolding on_ground
returns c = rw (sym c.good_offset.ensures ∙ c.if-good_offset.false)
