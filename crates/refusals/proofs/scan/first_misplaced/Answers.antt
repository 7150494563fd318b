-- `refusals::scan::first_misplaced` meets its contract. Assumes nothing.
use Rattle.std.proofs.Common.{rules}
use Rattle.refusals.proofs.Lent.{lent_misplaced}
use Rattle.refusals.specs.Check.{is_misplaced}
use Rattle.refusals.proofs.scan.first_misplaced.Goals as goal

pub returns : goal.returns
returns c = rw (← c.saturating_sub.ensures) (c.first_index.ensures (is_misplaced c.args.table.now) (λ i b l p. search (lent_misplaced c.args.table.now i, rules)))
