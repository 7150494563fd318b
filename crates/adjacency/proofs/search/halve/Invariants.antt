-- `adjacency::search::halve` meets its contract. What the library's search asks of a row. Assumes nothing.
use mathlib.Core.Bool.{Bool}
use Prim.Native.Nat.{ℕ}
use lib.Dec.{ltb}

-- whether it is below the number
abbrev pub is_below : ℕ → ℕ → Bool
is_below want y = ltb y want
