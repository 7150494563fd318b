-- Numbers as bytes, "low byte first": the number at the front of a slice, and the bytes of a number. A byte past the end is read as 0.
-- Assumes nothing.
use Rattle.std.specs.Prelude.{[], ◌∷◌, ℕ, ◌+◌, ◌*◌, ◌/◌, ◌%◌, get_or, drop}
use Rattle.columns.specs.Column.{Bytes}

-- of two bytes
abbrev pub half : Bytes → ℕ
half s = get_or s 0 0 + get_or s 1 0 * 256

-- of four bytes
abbrev pub word : Bytes → ℕ
word s = get_or s 0 0 + get_or s 1 0 * 256 + get_or s 2 0 * 65536 + get_or s 3 0 * 16777216

-- of eight bytes
abbrev pub long : Bytes → ℕ
long s = word s + word (drop 4 s) * 4294967296

-- a number below 4,294,967,296 in four bytes
abbrev pub four_bytes : ℕ → Bytes
four_bytes n = n % 256 ∷ n / 256 % 256 ∷ n / 65536 % 256 ∷ n / 16777216 % 256 ∷ []
