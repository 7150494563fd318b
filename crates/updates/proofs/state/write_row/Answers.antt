-- Answers of `updates::state::write_row`.
use Rattle.std.proofs.Common.{◌∙◌, ap}
use Rattle.updates.proofs.state.write_row.Goals as goal

pub returns-in-Some : goal.returns-in-Some
returns-in-Some g c = λ f h. h _ _ c.write.ensures ∙ ap f c.in-Some.ensures.cases.same
