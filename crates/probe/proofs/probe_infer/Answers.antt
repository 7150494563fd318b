-- `probe::probe_infer` meets its contract: a coordinate that is handed on is read back from its bits. Assumes nothing.
use Rattle.places.proofs.Signs.{back32}
use Rattle.probe.proofs.probe_infer.Goals as goal

pub returns : goal.returns
returns c = let f = c.ranges in
    rw (c.from.ensures, c.infer_wire_connection.ensures, c.before.new.ensures, c.facing_of-code.ensures, back32 _ f.x, back32 _ f.y, back32 _ f.z)
