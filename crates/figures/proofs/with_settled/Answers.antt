-- `figures::with_settled` meets its contract. Assumes nothing.
use Rattle.figures.specs.Figures.{with_settled}
use Rattle.figures.proofs.with_settled.Goals as goal

pub overflow_add-result : goal.overflow_add-result
overflow_add-result c = record { fits = c.requires.room.tables }

pub with_rounds-requires : goal.with_rounds-requires
with_rounds-requires c = record { le_rounds = c.requires.le_rounds; by_index = c.requires.room.rounds }

pub with_levels-requires : goal.with_levels-requires
with_levels-requires c = record { capped = c.requires.capped; by_index = c.requires.room.levels }

pub returns : goal.returns
unfolding with_settled
returns c = rw (c.with_rounds.ensures, c.with_levels.ensures)
