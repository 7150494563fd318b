-- The replay of a file: records one after the other, each after four bytes of length.
-- Assumes nothing.
use Rattle.std.specs.Prelude.{Bool, cond, ℕ, zero, suc, ◌+◌, ◌-◌, length, take, drop, eqb, leb}
use Rattle.columns.specs.Column.{Bytes}
use Rattle.replay.specs.declared.Tally.{Tally}
use Rattle.words.specs.Words.{word}
use Rattle.replay.specs.Operations.{is_right}

-- a whole record stands at the front
abbrev pub starts_whole : Bytes → Bool
starts_whole s = leb (4 + word s) (length s)

-- the record at the front
abbrev pub first_record : Bytes → Bytes
first_record s = take (word s) (drop 4 s)

-- what comes after it
abbrev pub later_records : Bytes → Bytes
later_records s = drop (4 + word s) s

-- one more where the test holds
abbrev pub count_if : Bool → ℕ → ℕ
count_if b n = cond b (n + 1) n

-- so many records were replayed, of which so many were right, and these bytes are left: none where the file is whole
abbrev pub ended : Bytes → ℕ → ℕ → Tally
ended s records right = record { records = records; right = right; wrong = records - right; whole = eqb (length s) 0 }

-- the tally after at most n records more
unfoldable pub tally_from : ℕ → Bytes → ℕ → ℕ → Tally
tally_from zero s records right = ended s records right
tally_from (suc n) s records right =
    let later = tally_from n (later_records s) (records + 1) (count_if (is_right (first_record s)) right) in
    cond (starts_whole s) later (ended s records right)

-- each record has a byte at least, so there are no more of them than bytes
unfoldable pub tally_of : Bytes → Tally
tally_of s = tally_from (length s) s 0 0
