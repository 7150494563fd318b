-- A row that is lent by itself has the bytes that it has in the table.
-- Assumes nothing.
use mathlib.Core.Path.{◌≡◌, refl}
use Prim.Native.Nat.{ℕ, ◌+◌, ◌<◌}
use native.Mathlib.Nat.{zero-add}
use native.Mathlib.Omega.{arith}
use Rattle.columns.specs.Column.{Bytes, part}
use Rattle.columns.proofs.Parts.{part_at}
use Rattle.world.specs.Rows.{byte_of, word_of}

module _ (t : Bytes) (i : ℕ) where
  pub part_byte : (b : ℕ) → b < 32 → byte_of (part 32 t i) 0 b ≡ byte_of t i b
  part_byte b l = rw (zero-add b) (part_at 32 t i b l)

  pub part_word : (b : ℕ) → b < 29 → word_of (part 32 t i) 0 b ≡ word_of t i b
  part_word b l =
      rw (
        part_byte b (omega arith),
        part_byte (b + 1) (omega arith),
        part_byte (b + 2) (omega arith),
        part_byte (b + 3) (omega arith),
      )
      refl
