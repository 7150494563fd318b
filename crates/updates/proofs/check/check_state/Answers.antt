-- `updates::check::check_state` meets its contract: a row at fault is one of at most 1,024, so its number fits. Assumes nothing.
use Rattle.std.proofs.Common.{◌≡◌, refl, ℕ, ◌*◌, arith, get_or}
use Rattle.std.proofs.lemmas.Grind.{common_steps}
use native.Mathlib.Nat.{add-zero}
use Rattle.columns.specs.Column.{Bytes}
use Rattle.columns.specs.First.{first_from}
use Rattle.columns.proofs.First.{first_same}
use Rattle.columns.proofs.Parts.{part_at}
use Rattle.refusals.specs.Check.{is_overdriven_device}
use Rattle.updates.specs.State.{device_in, check_state}
use Rattle.refusals.proofs.Passed.{row_fits}
use Rattle.updates.proofs.check.check_state.Goals as goal

pub refuse_at-requires : goal.refuse_at-requires
refuse_at-requires c = rw c.first_bad_state.ensures (row_fits _ _ 0 (omega arith))

-- the first of sixteen bytes a row
sixteen_a_row : (st : Bytes) (n : ℕ)
    → first_from (is_overdriven_device (λ i. get_or st (i * 16) 0)) n 0 ≡ first_from (is_overdriven_device (device_in st)) n 0
sixteen_a_row st n = first_same _ _ n 0 (λ i _ _. rw (part_at 16 st i 0 (omega arith), add-zero (i * 16)) refl)

pub returns : goal.returns
unfolding check_state
returns c = rw (← sixteen_a_row c.args.state.now) (grind (arith, common_steps))
