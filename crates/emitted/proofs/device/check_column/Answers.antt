-- `emitted::device::check_column` meets its contract: a row at fault is one of at most 1,024, so its number fits. Assumes nothing.
use native.Mathlib.Omega.{arith}
use Rattle.refusals.proofs.Passed.{row_fits}
use Rattle.emitted.proofs.device.check_column.Goals as goal

pub refuse_at-requires : goal.refuse_at-requires
refuse_at-requires c = rw c.first_bad_device-bad.ensures (row_fits _ _ 0 (omega arith))
