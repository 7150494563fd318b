-- `redstone::redstone_merge` meets its contract: a number that is handed on is read back from its bits. Assumes nothing.
use Rattle.places.proofs.Signs.{back32}
use Rattle.redstone.proofs.redstone_merge.Goals as goal

pub returns : goal.returns
returns c = let merged = c in
    let made = merged in
    let s = made in
    rw (made.new.ensures, back32 s.args.dx s.ranges.dx, back32 s.args.dy s.ranges.dy, back32 s.args.dz s.ranges.dz) at merged.merge.ensures
