-- `world::find::find-at` meets its contract, by the place's cases. Assumes nothing.
use Rattle.world.proofs.find.find_at.Goals as goal

pub returns-in-Some : goal.returns-in-Some
returns-in-Some c = rw c.in-Some.is c.find.ensures
