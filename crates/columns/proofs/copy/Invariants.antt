-- `columns::copy` meets its contract. What is said of a list that was copied. Assumes nothing.
use mathlib.Core.Path.{◌≡◌}
use mathlib.Core.List.{List}
use Prim.Native.Nat.{ℕ}

abbrev pub Copied : List ℕ → List ℕ → Type 0
Copied from to = to ≡ from
