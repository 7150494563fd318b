-- A stream of tables, and how its reading ends. What stands in quotation marks is document 02's, Change 1.
-- Assumes nothing.
use Rattle.std.specs.Prelude.{cond, ◌≡◌, List, [], ◌∷◌, ◌++◌, ℕ, zero, suc, ◌+◌, ◌*◌, ◌/◌, ◌≤◌, length, take, drop, eqb, ltb, Option, Some, None}
use Rattle.columns.specs.Column.{Bytes}
use Rattle.words.specs.Words.{word, four_bytes}
use Rattle.streams.specs.declared.Ending.{Ending}
use Rattle.streams.specs.declared.Ending.TheVariants.{Whole, Cut, Count}

-- ---- "tables, each led by its row count in four bytes, low byte first"

-- how many bytes the table at the front has
abbrev pub table_bytes : Bytes → ℕ
table_bytes s = word s * 32

-- the table at the front
abbrev pub first_table : Bytes → Bytes
first_table s = take (table_bytes s) (drop 4 s)

-- what comes after it
abbrev pub later_tables : Bytes → Bytes
later_tables s = drop (4 + table_bytes s) s

-- how many bytes more a reading wants after the row count: none where there are too many rows
abbrev pub bytes_to_read : Bytes → ℕ
bytes_to_read s = cond (ltb 1024 (word s)) 0 (table_bytes s)

-- ---- what stands at the front of the bytes that are left: how the reading ends there, or none where a table stands there whole

-- Where a table may be read. "Reading ends as cut inside a table or its count, and as count at a row count above 1,024"
abbrev pub open_front : Bytes → Option Ending
open_front s =
    cond (eqb (length s) 0) (Some Whole)
    (cond (ltb (length s) 4) (Some Cut)
    (cond (ltb 1024 (word s)) (Some Count) (cond (ltb (length s) (4 + table_bytes s)) (Some Cut) None)))

-- Where none may: "or where any byte follows the 1,000,000th table, which goes before cut"
abbrev pub full_ending : Bytes → Ending
full_ending s = cond (eqb (length s) 0) Whole Count

-- where so many tables more may be read
abbrev pub front_of : ℕ → Bytes → Option Ending
front_of left s = cond (eqb left 0) (Some (full_ending s)) (open_front s)

-- ---- the whole stream

-- the tables that are read, in order, and how the reading ends
pub record Stream : Type 0 where
  pub tables : List Bytes
  pub ending : Ending

-- no table more, and such an end
abbrev pub ends_as : Ending → Stream
ends_as e = record { tables = []; ending = e }

abbrev pub led : Bytes → Stream → Stream
led t s = record { tables = t ∷ s.tables; ending = s.ending }

-- the table and then the later ones, or the end
abbrev pub go_on : Option Ending → Bytes → Stream → Stream
go_on None t later = led t later
go_on (Some e) t later = ends_as e

-- what is read of s where so many tables may be. "A table that is not read whole is not counted at all."
unfoldable pub read_within : ℕ → Bytes → Stream
read_within zero s = ends_as (full_ending s)
read_within (suc left) s = let later = read_within left (later_tables s) in go_on (open_front s) (first_table s) later

abbrev pub most_tables : ℕ
most_tables = 1000000

-- the stream that these bytes are, after the profile
unfoldable pub stream_of : Bytes → Stream
stream_of s = read_within most_tables s

-- ---- a stream that is written

-- tables, each led by its row count
unfoldable pub as_stream : List Bytes → Bytes
as_stream [] = []
as_stream (t ∷ ts) = four_bytes (length t / 32) ++ t ++ as_stream ts

-- a table of whole rows, at most 1,024 of them
pub record IsWritable (t : Bytes) : Type 0 where
  pub whole : length t ≡ length t / 32 * 32
  pub few : length t / 32 ≤ 1024
