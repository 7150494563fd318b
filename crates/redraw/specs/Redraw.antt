-- The whole of a call: `update_wire_shapes`.
-- Assumes nothing.
use Rattle.std.specs.Prelude.{◌≡◌, ℕ}
use Rattle.columns.specs.Column.{Bytes}
use Rattle.refusals.specs.Check.{check_input, answer_of, written}
use Rattle.redrawing.specs.Drawn.{update_wire_shapes}

-- what it answers, 0 or the refusal, and every byte of the table
pub record Redraws (p t t' : Bytes) (r : ℕ) : Type 0 where
  pub answer : r ≡ answer_of (check_input p t) 0
  pub table : t' ≡ written (check_input p t) t (update_wire_shapes p t)
