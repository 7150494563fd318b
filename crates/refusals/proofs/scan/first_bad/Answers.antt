-- `refusals::scan::first_bad` meets its contract. Assumes nothing.
use Rattle.std.proofs.Common.{rules}
use Rattle.refusals.proofs.Lent.{lent_bad}
use Rattle.refusals.specs.Check.{is_bad}
use Rattle.refusals.proofs.scan.first_bad.Goals as goal

pub returns : goal.returns
returns c = c.first_index.ensures (is_bad c.args.kinds c.args.table.now) (λ i b l p. search (lent_bad c.args.table.now i c.args.kinds, rules))
