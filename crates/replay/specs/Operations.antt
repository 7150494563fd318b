-- Whether the answer of a record is right, by its operation.
-- Assumes nothing.
use Rattle.std.specs.Prelude.{Bool, false, cond, ℕ, get_or, eqb}
use Rattle.columns.specs.Column.{Bytes}
use Rattle.answers.specs.Right.{traits_right, shape_right, find_right, properties_right, offset_right}
use Rattle.support_answers.specs.Answers.{supports_right}
use Rattle.wire_answers.specs.Right.{arms_right, transfer_right, redraw_right}
use Rattle.calls.specs.Calls.{settle_right, fresh_right, ticks_right, switch_right}

module _ (r : Bytes) where
  -- 10 to 13: the editor's calls. The answer of an operation that is not known is wrong
  abbrev pub call_right : ℕ → Bool
  call_right operation =
      cond (eqb operation 10) (settle_right r)
      (cond (eqb operation 11) (fresh_right r)
      (cond (eqb operation 12) (ticks_right r) (cond (eqb operation 13) (switch_right r) false)))

  -- 7 to 9: dust
  abbrev pub wire_right : ℕ → Bool
  wire_right operation =
      cond (eqb operation 7) (arms_right r)
      (cond (eqb operation 8) (transfer_right r) (cond (eqb operation 9) (redraw_right r) (call_right operation)))

  -- 1 to 6, and those above
  abbrev pub right_by : ℕ → Bool
  right_by operation =
      cond (eqb operation 1) (traits_right r)
      (cond (eqb operation 2) (shape_right r)
      (cond (eqb operation 3) (find_right r)
      (cond (eqb operation 4) (supports_right r)
      (cond (eqb operation 5) (properties_right r) (cond (eqb operation 6) (offset_right r) (wire_right operation))))))

  -- the first byte is the operation
  unfoldable pub is_right : Bool
  is_right = right_by (get_or r 0 0)
