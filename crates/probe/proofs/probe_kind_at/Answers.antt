-- `probe::probe_kind_at` meets its contract: a coordinate that is handed on is read back from its bits. Assumes nothing.
use Rattle.places.proofs.Signs.{back32}
use Rattle.probe.proofs.probe_kind_at.Goals as goal

pub returns : goal.returns
returns c = let f = c.ranges in
    rw (c.from.ensures, c.kind_at.ensures, c.before.new.ensures, back32 _ f.x, back32 _ f.y, back32 _ f.z)
