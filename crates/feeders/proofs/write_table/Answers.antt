-- `feeders::write_table` meets its contract. Assumes nothing.
use mathlib.Core.Path.{◌∙◌}
use Rattle.feeding.proofs.Listed.{list_found}
use Rattle.feeders.proofs.write_table.Goals as goal

pub returns : goal.returns
returns c = c.write_list.ensures ∙ list_found c.args.profile.now c.args.table.now c.requires.0 c.prepare.ensures.near c.prepare.ensures.class
