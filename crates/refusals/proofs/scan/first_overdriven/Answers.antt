-- `refusals::scan::first_overdriven` meets its contract. Assumes nothing.
use Rattle.std.proofs.Common.{rules}
use Rattle.refusals.proofs.Lent.{lent_overdriven}
use Rattle.refusals.specs.Check.{is_overdriven}
use Rattle.refusals.proofs.scan.first_overdriven.Goals as goal

pub returns : goal.returns
returns c = c.first_index.ensures (is_overdriven c.args.table.now) (λ i b l p. search (lent_overdriven c.args.table.now i, rules))
