-- `totals::start` meets its contract. Assumes nothing.
use Rattle.totals.proofs.Reading.{no_bytes}
use Rattle.totals.proofs.start.Goals as goal

pub returns : goal.returns
returns c = λ p. no_bytes p
