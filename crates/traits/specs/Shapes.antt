-- The shapes, by their number in byte 28 of a row.
-- Assumes nothing.
use Rattle.std.specs.Prelude.{ℕ}

abbrev pub Plain : ℕ
Plain = 0

abbrev pub BottomSlab : ℕ
BottomSlab = 1

abbrev pub TopSlab : ℕ
TopSlab = 2

abbrev pub DoubleSlab : ℕ
DoubleSlab = 3

abbrev pub BottomStairs : ℕ
BottomStairs = 4

abbrev pub TopStairs : ℕ
TopStairs = 5

abbrev pub Glass : ℕ
Glass = 6
