-- `world::find::if_standing` meets its contract, by what the search found. Assumes nothing.
use Rattle.world.proofs.find.if_standing.Goals as goal

pub returns-then-same : goal.returns-then-same
returns-then-same c = let same = c in
    rw (same.in-At.is, ← same.pos_of.ensures, ← same.same.ensures, c.if-same.true)

pub returns : goal.returns
returns c = let same = c in
    rw (same.in-At.is, ← same.pos_of.ensures, ← same.same.ensures, c.if-same.false)
