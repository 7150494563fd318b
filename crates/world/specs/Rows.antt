-- The block table: 32 bytes a row, each field by its name. A byte past the table's end is read as 0.
-- Assumes nothing.
use Rattle.std.specs.Prelude.{Bool, cond, ℕ, ◌+◌, ◌*◌, ◌/◌, length, get_or, eqb, Option, Some, None}
use Rattle.columns.specs.Column.{Bytes}
use Rattle.places.specs.declared.Pos.{Pos}
use Rattle.places.specs.Signed.{signed32, signed8}
use Rattle.places.specs.Places.{is_horizontal, cell, offset}

-- the number of rows
abbrev pub rows : Bytes → ℕ
rows t = length t / 32

-- byte b of row i
abbrev pub byte_of : Bytes → ℕ → ℕ → ℕ
byte_of t i b = get_or t (i * 32 + b) 0

-- the four bytes from byte b on of row i, "low byte first"
abbrev pub word_of : Bytes → ℕ → ℕ → ℕ
word_of t i b = byte_of t i b + byte_of t i (b + 1) * 256 + byte_of t i (b + 2) * 65536 + byte_of t i (b + 3) * 16777216

-- bytes 0-3, 4-7, 8-11: x, y, z
unfoldable pub pos_of : Bytes → ℕ → Pos
pos_of t i = cell (signed32 (word_of t i 0)) (signed32 (word_of t i 4)) (signed32 (word_of t i 8))

-- 12: the kind
abbrev pub kind_of : Bytes → ℕ → ℕ
kind_of t i = byte_of t i 12

-- 13: the facing
abbrev pub facing_of : Bytes → ℕ → ℕ
facing_of t i = byte_of t i 13

-- 14: "powered: 0 missing, 1 false, 2 true"
abbrev pub powered_of : Bytes → ℕ → ℕ
powered_of t i = byte_of t i 14

abbrev pub is_powered : Bytes → ℕ → Bool
is_powered t i = eqb (powered_of t i) 2

-- byte b + 1 where byte b says that it is given, else the other number
abbrev pub given_or : Bytes → ℕ → ℕ → ℕ → ℕ
given_or t i b other = cond (eqb (byte_of t i b) 1) (byte_of t i (b + 1)) other

-- 15, 16: the power level where it is given, else the other number
abbrev pub level_or : Bytes → ℕ → ℕ → ℕ
level_or t i other = given_or t i 15 other

-- 17, 18: the delay where it is given, else the other number
abbrev pub delay_or : Bytes → ℕ → ℕ → ℕ
delay_or t i other = given_or t i 17 other

-- 19, 20-22: `support_pos`, the position of the support, where its offset is given
unfoldable pub support_of : Bytes → ℕ → Option Pos
support_of t i =
    cond (eqb (byte_of t i 19) 1)
    (Some (offset (pos_of t i) (signed8 (byte_of t i 20)) (signed8 (byte_of t i 21)) (signed8 (byte_of t i 22))))
    None

-- 23: the arms are stored
abbrev pub has_stored_arms : Bytes → ℕ → Bool
has_stored_arms t i = eqb (byte_of t i 23) 1

-- 24-27: "North, East, South, West: 0 no entry, 1 None, 2 Side, 3 Up", and no entry along another facing
unfoldable pub arm_entry : Bytes → ℕ → ℕ → ℕ
arm_entry t i f = cond (is_horizontal f) (byte_of t i (23 + f)) 0

-- the stored entry of the arm along a facing, 0 where there is none
unfoldable pub stored_arm : Bytes → ℕ → ℕ → ℕ
stored_arm t i f = cond (has_stored_arms t i) (arm_entry t i f) 0

-- 28: the shape
abbrev pub shape_of : Bytes → ℕ → ℕ
shape_of t i = byte_of t i 28

-- 29: "1 where comparator mode is subtract"
abbrev pub is_subtract : Bytes → ℕ → Bool
is_subtract t i = eqb (byte_of t i 29) 1
