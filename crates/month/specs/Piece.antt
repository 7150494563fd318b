-- What a reading leaves in the buffer. That the bytes are those of the input cannot be said: the contracts of read and write do not speak of the
-- bytes that they move. So it is proved that the program's month is that of some stream, and what text it makes of it; that this stream is
-- the input after the profile, all of it and once, is tested.
-- Assumes nothing.
use Rattle.std.specs.Prelude.{List, ℕ, ◌+◌, ◌≤◌, length, Result, Ok, Err}
use Rattle.streams.specs.Stream.{bytes_to_read}

-- The first n bytes of the buffer are no more than one row count and its table.
pub record Piece (buf : List ℕ) (n : ℕ) : Type 0 where
  pub within : n ≤ length buf
  pub one : n ≤ 4 + bytes_to_read buf

-- so where they could be read
abbrev pub IsPiece : {E : Type 0} → List ℕ → Result ℕ E → Type 0
IsPiece buf (Ok n) = Piece buf n
IsPiece buf (Err e) = Unit {0}
