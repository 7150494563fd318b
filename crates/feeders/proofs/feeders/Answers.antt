-- `feeders::feeders` meets its contract, by what the checks answer. Assumes nothing.
use mathlib.Core.Path.{refl, sym, ◌∙◌}
use native.Mathlib.Omega.{arith}
use Rattle.refusals.proofs.Accepted.{accepted_input}
use Rattle.feeders.proofs.Checks.{given, feeders_accepted}
use Rattle.feeders.proofs.feeders.Goals as goal

pub returns-in-Err : goal.returns-in-Err
returns-in-Err c = let told = c.in-Err.is in
    let refused = sym c.check_feeders.ensures ∙ told in
    record { answer = rw refused c.answer.ensures; entries = rw refused refl }

pub write_table-requires : goal.write_table-requires
write_table-requires c = let g = given _ _ _ (sym c.check_feeders.ensures ∙ c.in_default.is) in ((accepted_input _ _ g.input).1, g.list_long)

pub overflow_cast-result : goal.overflow_cast-result
overflow_cast-result c = let g = given _ _ _ (sym c.check_feeders.ensures ∙ c.in_default.is) in
    omega (arith, c.rows.ensures, (accepted_input _ _ g.input).1.few)

pub returns : goal.returns
returns c = let accepted = feeders_accepted _ _ _ (given _ _ _ (sym c.check_feeders.ensures ∙ c.in_default.is)) in
    record { answer = rw accepted c.rows.ensures; entries = rw accepted c.write_table.ensures }
