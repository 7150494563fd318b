-- Answers of `repeater::locks_from`, by what was found.
use Rattle.repeater.proofs.locks_from.Goals as goal

pub invariant_of-from : goal.invariant_of-from
invariant_of-from c = let at = c.args.at.prepared in record { prepared = record { table = at.table; by = at.by; inside = rw c.in-At.is at c.requires } }

pub returns : goal.returns
returns c = rw c.in-At.is (cc c.outputs_into.ensures)
