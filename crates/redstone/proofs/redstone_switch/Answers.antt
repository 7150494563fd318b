-- `redstone::redstone_switch` meets its contract: a coordinate that is handed on is read back from its bits. Assumes nothing.
use Rattle.places.proofs.Signs.{back32}
use Rattle.redstone.proofs.redstone_switch.Goals as goal

pub returns : goal.returns
returns c = let s = c in
    rw (back32 s.args.x s.ranges.x, back32 s.args.y s.ranges.y, back32 s.args.z s.ranges.z) at c.switch.ensures
