-- Answers of `columns::copy`: the library copies all of it.
use Rattle.columns.proofs.copy.Invariants.{Copied}
use Rattle.columns.proofs.copy.Goals as goal

pub returns : goal.returns
returns c = let whole : Copied c.args.from.now c.copy_from_slice.new.self = c.copy_from_slice.ensures.after in whole
