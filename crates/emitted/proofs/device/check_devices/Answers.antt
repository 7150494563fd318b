-- `emitted::device::check_devices` meets its contract: an accepted table has at most 1,024 rows. Assumes nothing.
use mathlib.Core.Path.{sym, ◌∙◌}
use Rattle.refusals.proofs.Accepted.{accepted_input}
use Rattle.emitted.proofs.device.check_devices.Goals as goal

pub check_column-requires : goal.check_column-requires
check_column-requires c = (accepted_input _ _ (sym c.check_input.ensures ∙ c.in_ok-check_input.was)).1.few
