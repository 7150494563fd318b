-- Whether the editor's calls that settle answer and write as the original did, of a record that has the parts of its operation.
-- The definitions of settle, fresh, tick and switch say what a call answers and what it writes.
-- Assumes nothing.
use Rattle.std.specs.Prelude.{Bool, ◌&&◌, ℕ, ◌*◌, length, replicate, eqb, leb}
use Rattle.columns.specs.Column.{Bytes, Column, same}
use Rattle.network.specs.Network.{State}
use Rattle.world.specs.Rows.{rows}
use Rattle.refusals.specs.Check.{Checked, answer_of, written}
use Rattle.electrical.specs.Answer.{rounds_of, settled, check_settle}
use Rattle.updates.specs.State.{devices_of, fresh_devices, fresh_state}
use Rattle.updates.specs.Tick.{ticks}
use Rattle.switching.specs.Switch.{switched}
use Rattle.updates.specs.Calls.{check_fresh, check_step, check_tick}
use Rattle.records.specs.Record.{pos_at, after, slice_of, number, is_small, well_formed, columns_agree}

-- ---- what a call is lent

-- every byte of a buffer that the call is to fill, before it: one that a call seldom writes
abbrev pub blank : ℕ
blank = 195

-- a buffer of n such bytes
abbrev pub blanks : ℕ → Bytes
blanks n = replicate n blank

-- the most ticks that a record asks for
abbrev pub most_ticks : ℕ
most_ticks = 1000

-- ---- what a record says of the columns

-- the columns that were lent, after a call on which c falls: those of the settled state, or as they were where it is refused
abbrev pub written_agree : Bytes → ℕ → ℕ → ℕ → Checked → State → Column → Column → Column → Bool
written_agree r i j k c s signal weak strong =
    columns_agree r i j k (written c signal s.signal) (written c weak s.weak) (written c strong s.strong)

-- ---- the answer and every byte of every buffer of a call that was lent these buffers

module _ (r : Bytes) where
  unfoldable pub settle_in : Column → Column → Column → Bool
  settle_in signal weak strong =
      let p = slice_of r 0 in
      let t = slice_of r 1 in
      let d = slice_of r 2 in
      let c = check_settle p t d (number r 6 0) (length signal) (length weak) (length strong) in
      eqb (answer_of c (rounds_of p t d)) (number r 6 4) && written_agree r 3 4 5 c (settled p t d) signal weak strong

  unfoldable pub fresh_in : Bytes → Column → Column → Column → Bool
  fresh_in st signal weak strong =
      let p = slice_of r 0 in
      let t = slice_of r 1 in
      let c = check_fresh p t (length st) (length signal) (length weak) (length strong) in
      let d = fresh_devices t in
      eqb (answer_of c (rounds_of p t d)) (number r 6 0)
      && (same (written c st (fresh_state p t)) (slice_of r 2) && written_agree r 3 4 5 c (settled p t d) signal weak strong)

  unfoldable pub ticks_in : Bytes → Column → Column → Column → Bool
  ticks_in st signal weak strong =
      let p = slice_of r 0 in
      let t = slice_of r 1 in
      let c = check_tick p t st (number r 7 0) (number r 7 4) (length signal) (length weak) (length strong) in
      let next = ticks (number r 7 4) p t st in
      let d = devices_of t next in
      eqb (answer_of c (rounds_of p t d)) (number r 7 8)
      && (same (written c st next) (slice_of r 3) && written_agree r 4 5 6 c (settled p t d) signal weak strong)

  unfoldable pub switch_in : Bytes → Column → Column → Column → Bool
  switch_in t signal weak strong =
      let p = slice_of r 0 in
      let st = slice_of r 3 in
      let c = check_step p t st (length signal) (length weak) (length strong) in
      let next = switched t (pos_at (after r 7) 0) (number r 7 12) in
      let d = devices_of t st in
      eqb (answer_of c (rounds_of p next d)) (number r 7 16)
      && (same (written c t next) (slice_of r 2) && written_agree r 4 5 6 c (settled p next d) signal weak strong)

  -- ---- by operation

  -- each of the three columns that are lent
  abbrev pub column : Column
  column = blanks (rows (slice_of r 1))

  -- 10: profile, table, devices, signal, weak, strong; limit, answer
  unfoldable pub settle_right : Bool
  settle_right = well_formed r 6 8 && settle_in column column column

  -- 11: profile, table, state, signal, weak, strong; answer
  unfoldable pub fresh_right : Bool
  fresh_right = well_formed r 6 4 && fresh_in (blanks (rows (slice_of r 1) * 16)) column column column

  -- a record of ticks, from a state that is small; one that asks for more ticks than the most is wrong, so that a replay is short
  abbrev pub well_formed_ticks : Bool
  well_formed_ticks = well_formed r 7 12 && (is_small (slice_of r 2) && leb (number r 7 4) most_ticks)

  -- 12: profile, table, state before, state after, signal, weak, strong; tick, ticks, answer
  unfoldable pub ticks_right : Bool
  ticks_right = well_formed_ticks && ticks_in (slice_of r 2) column column column

  -- 13: profile, table before, table after, state, signal, weak, strong; x, y, z, powered, answer
  unfoldable pub switch_right : Bool
  switch_right = well_formed r 7 20 && switch_in (slice_of r 1) column column column
