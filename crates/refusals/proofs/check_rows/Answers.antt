-- `refusals::check_rows` meets its contract: a row at fault is one of at most 1,024, so its number fits. Assumes nothing.
use native.Mathlib.Omega.{arith}
use Rattle.refusals.proofs.Passed.{row_fits}
use Rattle.refusals.proofs.check_rows.Goals as goal

pub refuse_at-requires : goal.refuse_at-requires
refuse_at-requires c = rw c.first_bad.ensures (row_fits _ _ 0 (omega arith))

pub refuse_at-requires-2 : goal.refuse_at-requires-2
refuse_at-requires-2 c = rw c.first_misplaced.ensures (row_fits _ _ 1 (omega arith))

pub refuse_at-requires-3 : goal.refuse_at-requires-3
refuse_at-requires-3 c = rw c.first_overdriven.ensures (row_fits _ _ 0 (omega arith))
