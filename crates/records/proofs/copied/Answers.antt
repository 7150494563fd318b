-- `records::copied` meets its contract. Assumes nothing.
use native.Mathlib.Omega.{arith}
use Rattle.records.proofs.Copies.{copy_is}
use Rattle.records.proofs.copied.Goals as goal

pub returns : goal.returns
returns c = rw c.copy_from_slice.ensures.after (copy_is c.args.s.now c.min-n.result (omega (arith, c.min-n.ensures)))
