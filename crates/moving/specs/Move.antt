-- A table moved by an offset. What stands in quotation marks is document 02's, Change 6, or document 01's.
-- Assumes nothing.
use Rattle.std.specs.Prelude.{Bool, ◌&&◌, ◌++◌, ℕ, ◌-◌, drop, ℤ, pos, negsuc, ◌+ℤ◌}
use Rattle.std.specs.Int.Signed.{le_z}
use Rattle.columns.specs.Column.{Bytes, part, concat_rows}
use Rattle.columns.specs.First.{all_below}
use Rattle.words.specs.Words.{four_bytes}
use Rattle.places.specs.declared.Pos.{Pos}
use Rattle.places.specs.Places.{cell}
use Rattle.world.specs.Rows.{rows, pos_of}
use Rattle.layout.specs.Good.{good_place}

-- ---- a position

-- q moved by "an offset of three whole numbers"
abbrev pub moved_by : Pos → Pos → Pos
moved_by by q = cell (q.x +ℤ by.x) (q.y +ℤ by.y) (q.z +ℤ by.z)

-- ---- its bytes

-- "signed 32 bits": the bits of a number that 32 hold, which `signed32` reads back
abbrev pub bits32 : ℤ → ℕ
bits32 (pos n) = n
bits32 (negsuc n) = 4294967295 - n

-- bytes 0-3, 4-7, 8-11: x, y, z, "low byte first"
unfoldable pub pos_bytes : Pos → Bytes
pos_bytes q = four_bytes (bits32 q.x) ++ four_bytes (bits32 q.y) ++ four_bytes (bits32 q.z)

-- ---- a row of 32 bytes, and a table

-- "the 32 bytes after moving": those of the position, and the rest as it was
unfoldable pub moved_row : Pos → Bytes → Bytes
moved_row by r = pos_bytes (moved_by by (pos_of r 0)) ++ drop 12 r

-- every whole row moved
unfoldable pub moved_table : Pos → Bytes → Bytes
moved_table by t = concat_rows (rows t) (λ i. moved_row by (part 32 t i))

-- ---- where it may be moved to

-- "each from -2,000,000 to 2,000,000"
abbrev pub in_offset_range : ℤ → Bool
in_offset_range d = le_z (negsuc 1999999) d && le_z d (pos 2000000)

unfoldable pub good_offset : Pos → Bool
good_offset by = in_offset_range by.x && in_offset_range by.y && in_offset_range by.z

-- 11 off ground falls "if the offset or a moved coordinate is out of range"; else they are in range: of a coordinate "each from -1,000,000 to 1,000,000"
unfoldable pub on_ground : Pos → Bytes → Bool
on_ground by t = good_offset by && all_below (λ i. good_place (moved_by by (pos_of t i))) (rows t)
