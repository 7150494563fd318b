-- How many bytes a read answers. That the bytes are those of the input cannot be said: the contracts of read and write do not speak of the bytes that
-- they move. So what a program reads and writes is tested, and only the text for what was read is proved.
-- Assumes nothing.
use Rattle.std.specs.Prelude.{ℕ, ◌≤◌, Result, Ok, Err}

-- no more than the buffer has, where it could be read
abbrev pub AtMost : {E : Type 0} → ℕ → Result ℕ E → Type 0
AtMost most (Ok n) = n ≤ most
AtMost most (Err e) = Unit {0}
