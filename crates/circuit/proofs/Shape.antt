-- Laws of the columns' shape and of the row at a place.
-- Assumes nothing.
use mathlib.Core.Path.{◌≡◌}
use Prim.Native.Nat.{ℕ, ◌+◌, ◌*◌, ◌≤◌, ◌<◌}
use native.Mathlib.Nat.{mul-le-mul_right}
use native.Mathlib.Omega.{arith}
use lib.ListN.{length}
use borrow.Author.Tests.{lt-ltb, le-ltb}
use Rattle.columns.specs.Column.{Column, row}
use Rattle.classes.specs.Towards.{places}
use Rattle.circuit.specs.Circuit.{no_row, Shaped, beside_in}

module _ {near class : Column} (s : Shaped near class) (j k : ℕ) where
  -- the entry of a row's place is one of the column
  pub place_inside : j < length class → k < places → k * length class + j < length near
  place_inside l m = let low : k ≤ 6 = omega arith in omega (arith, s.long, mul-le-mul_right (length class) low)

module _ (near class : Column) (j k : ℕ) where
  pub beside_row : j < length class → beside_in near class j k ≡ row near (k * length class + j)
  unfolding beside_in
  beside_row l = rw (lt-ltb j (length class) l)

  pub beside_none : length class ≤ j → beside_in near class j k ≡ no_row
  unfolding beside_in
  beside_none l = rw (le-ltb j (length class) l)
