-- `adjacency::positions::biased` meets its contract. Assumes nothing.
use native.Mathlib.Omega.{arith}
use Rattle.adjacency.proofs.Packed.{word_biased}
use Rattle.adjacency.proofs.positions.biased.Goals as goal

pub returns : goal.returns
returns c = rw c.from.ensures (word_biased c.args.word (omega arith) c.requires)
