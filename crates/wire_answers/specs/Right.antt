-- Whether the answer of a record of operations 7 to 9 is right.
-- Assumes nothing.
use Rattle.std.specs.Prelude.{Bool, ◌&&◌, get_or}
use Rattle.columns.specs.Column.{Bytes}
use Rattle.records.specs.Record.{pos_at, after, slice_of, number, has_parts}
use Rattle.wire_answers.specs.Answers.{arms_agree, transfer_agrees, redraw_agrees}

module _ (r : Bytes) where
  -- 7: profile, table; position, facing, inferred, resolved
  abbrev pub arms_right : Bool
  arms_right =
      has_parts r 2 15
      && arms_agree (slice_of r 0) (slice_of r 1) (pos_at (after r 2) 0) (get_or (after r 2) 12 0) (get_or (after r 2) 13 0) (get_or (after r 2) 14 0)

  -- 8: profile, table; position, position, transfer
  abbrev pub transfer_right : Bool
  transfer_right =
      has_parts r 2 25
      && transfer_agrees (slice_of r 0) (slice_of r 1) (pos_at (after r 2) 0) (pos_at (after r 2) 12) (get_or (after r 2) 24 0)

  -- 9: profile, table before, table after; answer
  abbrev pub redraw_right : Bool
  redraw_right = has_parts r 3 4 && redraw_agrees (slice_of r 0) (slice_of r 1) (slice_of r 2) (number r 3 0)
