-- The text that the program `settle` writes, as a function of the whole of its input. What stands in quotation marks is document 01's, or document
-- 02's, Change 4.
-- Assumes nothing.
use Rattle.std.specs.Prelude.{Ok, Err, ◌≡◌, Bool, cond, ◌||◌, [], ℕ, ◌%◌, ◌≤◌, length, take, drop, eqb, leb}
use Rattle.columns.specs.Column.{Bytes, at_front}
use Rattle.world.specs.Rows.{rows}
use Rattle.refusals.specs.Check.{Checked, refuse_unless}
use Rattle.electrical.specs.Answer.{rounds_of, settled, check_settle}
use Rattle.updates.specs.State.{fresh_devices}
use Rattle.lines.specs.Lines.{settled_text, refusal_text}

-- the refusal's text, or that of a call that is not refused
abbrev pub text_of : Checked → Bytes → Bytes
text_of (Ok _) done = done
text_of (Err fault) done = refusal_text fault.number fault.row

-- ---- the whole input

-- "tells 13 from 14 by the length's remainder by 32"
abbrev pub has_bulb_byte : Bytes → Bool
has_bulb_byte input = eqb (length input % 32) 14

-- how many bytes the profile has, where whole rows follow it
abbrev pub profile_bytes : Bytes → ℕ
profile_bytes input = cond (has_bulb_byte input) 14 13

-- "reads the profile and then the table"
abbrev pub profile_of : Bytes → Bytes
profile_of input = take (profile_bytes input) input

abbrev pub table_of : Bytes → Bytes
table_of input = drop (profile_bytes input) input

-- "takes the fresh devices and limit 128"; the columns have one entry per row
unfoldable pub check_run : Bytes → Bytes → Checked
check_run p t = check_settle p t (fresh_devices t) 128 (rows t) (rows t) (rows t)

-- 32,781 bytes, but "its byte limit becomes 32,782 with 14"
abbrev pub most_bytes : Bytes → ℕ
most_bytes input = cond (has_bulb_byte input) 32782 32781

-- after 13 bytes or 14 the rows are whole
abbrev pub has_whole_rows : Bytes → Bool
has_whole_rows input = eqb (length input % 32) 13 || has_bulb_byte input

-- "More than 32,781 bytes is number 3 before all else"; "still calls less than 13 bytes number 1 .. and calls any other remainder number 2, before
-- number 1's other cases"
unfoldable pub check_whole : Bytes → Checked
check_whole input =
    refuse_unless 3 (leb (length input) (most_bytes input))
    (refuse_unless 1 (leb 13 (length input)) (refuse_unless 2 (has_whole_rows input) (check_run (profile_of input) (table_of input))))

unfoldable pub run_text : Bytes → Bytes → Bytes
run_text p t =
    let d = fresh_devices t in
    let s = settled p t d in
    settled_text t (rounds_of p t d) s.signal s.weak s.strong

unfoldable pub settle_text : Bytes → Bytes
settle_text input = text_of (check_whole input) (run_text (profile_of input) (table_of input))

-- ---- a call that writes it

-- room enough for every text; that a shorter buffer gets nothing is a rule of this library
abbrev pub room : ℕ
room = 65536

-- what is put into a buffer: the text, or nothing where the buffer is shorter than the room
unfoldable pub reported : Bytes → Bytes → Bytes
reported input out = cond (leb room (length out)) (settle_text input) []

-- The whole of a call: how many bytes it puts, and every byte of the buffer.
pub record Reports (input out out' : Bytes) (r : ℕ) : Type 0 where
  pub answer : r ≡ length (reported input out)
  pub text : out' ≡ at_front (reported input out) out
  -- it follows from the two above, and spares the caller the proof
  pub within : r ≤ length out'
