-- `updates::check::check_step` meets its contract: an accepted table has at most 1,024 rows. Assumes nothing.
use mathlib.Core.Path.{sym, ◌∙◌}
use Rattle.refusals.proofs.Accepted.{accepted_input}
use Rattle.updates.proofs.check.check_step.Goals as goal

pub check_state-requires : goal.check_state-requires
check_state-requires c = (accepted_input _ _ (sym c.check_input.ensures ∙ c.in_ok-check_input.was)).1.few
