-- Answers of `columns::same`.
use Rattle.std.proofs.Common.{◌∙◌}
use Rattle.columns.proofs.Columns.{pointwise_same}
use Rattle.columns.proofs.same.Goals as goal

pub returns : goal.returns
returns c = c.eq.ensures ∙ pointwise_same c.args.a.now c.args.b.now
