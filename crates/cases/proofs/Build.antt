-- Rows of the block table, built by field: `facing East (block Comparator 0 1 0)`. "fields not named 0".
-- Assumes nothing.
use mathlib.Core.List.{[], ◌∷◌, ◌++◌}
use Prim.Native.Nat.{ℕ, ◌-◌}
use lib.ListN.{set, replicate}
use lib.IntN.{ℤ, pos, negsuc}
use Rattle.columns.specs.Column.{Bytes}

-- a number's byte, signed
abbrev byte_of_ℤ : ℤ → ℕ
byte_of_ℤ (pos n) = n
byte_of_ℤ (negsuc n) = 255 - n

-- 32 bits, low byte first, of a coordinate from 0 to 255
abbrev coordinate : ℕ → Bytes
coordinate n = n ∷ 0 ∷ 0 ∷ 0 ∷ []

-- a row of the kind at (x, y, z)
abbrev pub block : ℕ → ℕ → ℕ → ℕ → Bytes
block kind x y z = coordinate x ++ coordinate y ++ coordinate z ++ kind ∷ replicate 19 0

abbrev pub facing : ℕ → Bytes → Bytes
facing f r = set r 13 f

-- powered true
abbrev pub powered : Bytes → Bytes
powered r = set r 14 2

abbrev pub level : ℕ → Bytes → Bytes
level n r = set (set r 15 1) 16 n

abbrev pub delay : ℕ → Bytes → Bytes
delay n r = set (set r 17 1) 18 n

abbrev pub support : ℤ → ℤ → ℤ → Bytes → Bytes
support dx dy dz r = set (set (set (set r 19 1) 20 (byte_of_ℤ dx)) 21 (byte_of_ℤ dy)) 22 (byte_of_ℤ dz)

abbrev pub shape : ℕ → Bytes → Bytes
shape s r = set r 28 s

abbrev pub subtract : Bytes → Bytes
subtract r = set r 29 1
