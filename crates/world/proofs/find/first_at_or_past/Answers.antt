-- `world::find::first_at_or_past` meets its contract: the test at a row is `is_at_or_past`. Assumes nothing.
use Rattle.std.proofs.Common.{rules}
use Rattle.world.specs.Find.{is_at_or_past, first_at_or_past}
use Rattle.world.proofs.find.first_at_or_past.Goals as goal

pub returns : goal.returns
unfolding first_at_or_past
returns c = rw (← c.rows.ensures) (c.first_index.ensures (is_at_or_past c.args.table.now c.args.q) (λ i b l p. search rules))
