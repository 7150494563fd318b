-- Answers of `columns::zeros`.
use Rattle.std.proofs.Common.{◌∙◌}
use Rattle.columns.proofs.Columns.{replicate_rule}
use Rattle.columns.proofs.zeros.Goals as goal

pub returns : goal.returns
returns c = c.fill.ensures.after (λ y h. h) ∙ replicate_rule _ _
