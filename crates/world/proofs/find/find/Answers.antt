-- `world::find::find` meets its contract. Assumes nothing.
use Rattle.world.specs.Find.{find}
use Rattle.world.proofs.find.find.Goals as goal

pub returns : goal.returns
unfolding find
returns c = rw (← c.first_at_or_past.ensures) c.if_standing.ensures
