-- Whether the answer of a record of operations 1 to 3, 5 and 6 is right.
-- Assumes nothing.
use Rattle.std.specs.Prelude.{Bool, ◌&&◌, get_or, drop}
use Rattle.columns.specs.Column.{Bytes}
use Rattle.words.specs.Words.{long}
use Rattle.records.specs.Record.{pos_at, after, slice_of, has_parts}
use Rattle.answers.specs.Answers.{traits_agree, shape_agrees, find_agrees, properties_agree, offset_agrees}

module _ (r : Bytes) where
  -- 1: profile, table, traits
  abbrev pub traits_right : Bool
  traits_right = has_parts r 3 0 && traits_agree (slice_of r 0) (slice_of r 1) (slice_of r 2)

  -- 2: name, type, half; shape
  abbrev pub shape_right : Bool
  shape_right = has_parts r 3 1 && shape_agrees (slice_of r 0) (slice_of r 1) (slice_of r 2) (get_or (after r 3) 0 0)

  -- 3: table; position, row, kind
  abbrev pub find_right : Bool
  find_right =
      has_parts r 1 21
      && find_agrees (slice_of r 0) (pos_at (after r 1) 0) (long (drop 12 (after r 1))) (get_or (after r 1) 20 0)

  -- 5: profile; properties
  abbrev pub properties_right : Bool
  properties_right = has_parts r 1 14 && properties_agree (slice_of r 0) (after r 1)

  -- 6: position, step, position
  abbrev pub offset_right : Bool
  offset_right = has_parts r 0 36 && offset_agrees (pos_at (after r 0) 0) (pos_at (after r 0) 12) (pos_at (after r 0) 24)
