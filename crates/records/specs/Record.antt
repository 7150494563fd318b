-- The parts of a record, as FORMAT.md lays them out: an operation, a zero, slices and then numbers.
-- A byte past the end is read as 0.
-- Assumes nothing.
use Rattle.std.specs.Prelude.{Bool, ◌&&◌, ℕ, zero, suc, ◌+◌, ◌*◌, length, get_or, take, drop, eqb, leb}
use Rattle.columns.specs.Column.{Bytes, Column, row, tabulate, same}
use Rattle.places.specs.declared.Pos.{Pos}
use Rattle.world.specs.Rows.{pos_of}
use Rattle.words.specs.Words.{half, word}

-- ---- numbers

-- entry i of a list of numbers of two bytes
abbrev pub entry : Bytes → ℕ → ℕ
entry s i = half (drop (i * 2) s)

-- the position that stands at an index, laid out as in a row of a table
abbrev pub pos_at : Bytes → ℕ → Pos
pos_at s at = pos_of (drop at s) 0

-- ---- slices: two bytes of length, and then the bytes

-- where a record goes on after its operation, the zero and its first slices
unfoldable pub parts_from : Bytes → ℕ → ℕ
parts_from s zero = 2
parts_from s (suc k) = parts_from s k + 2 + half (drop (parts_from s k) s)

-- what stands after the first k slices
abbrev pub after : Bytes → ℕ → Bytes
after s k = drop (parts_from s k) s

-- the bytes of slice k
abbrev pub slice_of : Bytes → ℕ → Bytes
slice_of s k = take (half (after s k)) (drop 2 (after s k))

-- the number of four bytes that stands at an index of what comes after the slices
abbrev pub number : Bytes → ℕ → ℕ → ℕ
number s slices at = word (drop at (after s slices))

-- the record has the zero, that many slices and then that many bytes
abbrev pub has_parts : Bytes → ℕ → ℕ → Bool
has_parts s slices rest = eqb (get_or s 1 0) 0 && (leb (parts_from s slices) (length s) && eqb (length (after s slices)) rest)

-- ---- tables

-- the recorded tables have at most this many rows, where columns are lent
abbrev pub most_rows : ℕ
most_rows = 64

-- the bytes of such a table
abbrev pub most_bytes : ℕ
most_bytes = most_rows * 32

-- the slice has no more bytes than such a table
abbrev pub is_small : Bytes → Bool
is_small s = leb (length s) most_bytes

-- the record has the parts of its operation, and in slice 1 a table that is small
abbrev pub well_formed : Bytes → ℕ → ℕ → Bool
well_formed s slices rest = has_parts s slices rest && is_small (slice_of s 1)

-- so many bytes: those of the slice, and 0 past its end
abbrev pub copied : Bytes → Bytes
copied s = tabulate most_bytes (row s)

-- ---- columns

-- the columns are slices i, j and k
unfoldable pub columns_agree : Bytes → ℕ → ℕ → ℕ → Column → Column → Column → Bool
columns_agree s i j k signal weak strong = same signal (slice_of s i) && (same weak (slice_of s j) && same strong (slice_of s k))
