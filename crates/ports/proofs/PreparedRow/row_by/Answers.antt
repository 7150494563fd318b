-- Answers of `ports::PreparedRow::row_by`, by the entry of the place.
use Rattle.std.proofs.Common.{◌∙◌}
use Rattle.ports.proofs.Near.{near_inside, near_found}
use Rattle.ports.proofs.PreparedRow.row_by.Goals as goal

pub bounds-self-place : goal.bounds-self-place
bounds-self-place c = rw c.rows.ensures (near_inside c.args.self.prepared _ c.requires).0

pub returns : goal.returns
returns c = c.found_in.ensures ∙ rw c.rows.ensures (near_found c.args.self.prepared _ c.requires)
