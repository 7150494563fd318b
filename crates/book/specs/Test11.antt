-- Test 11: "Coordinate 1,000,000 passes, 1,000,001 is 4. 1,024 rows pass, 1,025 is 3".
-- Assumes nothing.
use Rattle.std.specs.Prelude.{Ok, Err, ℕ, replicate}
use Rattle.columns.specs.Column.{Bytes}
use Rattle.blocks.specs.Kind.{Solid}
use Rattle.blocks.specs.Profile.{bench_profile}
use Rattle.refusals.specs.Check.{Checked, check_input}
use Rattle.book.specs.Tables.{put_block, put_line}

-- the number of the refusal, 0 where there is none
abbrev pub refusal_number : Checked → ℕ
refusal_number (Ok _) = 0
refusal_number (Err fault) = fault.number

-- what the bench profile and a table answer
abbrev pub answer_to : Bytes → ℕ
answer_to t = refusal_number (check_input bench_profile t)

-- one Solid block at (x, 0, 0)
unfoldable pub coordinate_answer : ℕ → ℕ
coordinate_answer x = answer_to (put_block (replicate 32 0) 0 x 0 Solid)

-- that many Solid blocks side by side, in a table of zeros
unfoldable pub rows_answer : Bytes → ℕ → ℕ
rows_answer zeros n = answer_to (put_line zeros n)
