-- `report::checked` meets its contract, by what the check answers. Assumes nothing.
use mathlib.Core.Path.{sym, ◌∙◌}
use Rattle.report.proofs.Run.{run_accepted, run_refused}
use Rattle.report.proofs.checked.Goals as goal

pub settled-requires : goal.settled-requires
settled-requires c = (sym c.check_input.ensures ∙ c.in-Ok.is, c.requires)

pub returns-in-Ok : goal.returns-in-Ok
returns-in-Ok c = rw (run_accepted c.args.profile.now c.args.table.now (sym c.check_input.ensures ∙ c.in-Ok.is)) c.settled.ensures

pub returns-in-Err : goal.returns-in-Err
returns-in-Err c = rw (run_refused c.args.profile.now c.args.table.now (sym c.check_input.ensures ∙ c.in-Err.is)) c.refusal.ensures
