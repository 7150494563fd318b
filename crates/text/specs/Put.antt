-- Text that is put into a buffer at a place.
-- Assumes nothing.
use Rattle.std.specs.Prelude.{◌≡◌, ◌++◌, ℕ, ◌+◌, ◌≤◌, length, take, drop}
use Rattle.columns.specs.Column.{Bytes}

-- the text stands in the buffer from `at` up to `r`, and all else is as it was
pub record Puts (text : Bytes) (at : ℕ) (old new : Bytes) (r : ℕ) : Type 0 where
  pub end : r ≡ at + length text
  pub within : r ≤ length old
  pub bytes : new ≡ take at old ++ text ++ drop r old
