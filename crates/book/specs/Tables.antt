-- The tables of the book's tests: "fields not named 0", and no coordinate below 0.
-- Assumes nothing.
use Rattle.std.specs.Prelude.{cond, ℕ, zero, suc, ◌+◌, ◌*◌, set, ltb}
use Rattle.std.proofs.lemmas.List.Edits.{sets}
use Rattle.columns.specs.Column.{Bytes}
use Rattle.words.specs.Words.{four_bytes}
use Rattle.blocks.specs.Kind.{Solid}
use Rattle.world.specs.Rows.{rows}

-- row i is a block of this kind at (x, y, 0); a table with no such row stays as it is
unfoldable pub put_block : Bytes → ℕ → ℕ → ℕ → ℕ → Bytes
put_block t i x y kind =
    cond (ltb i (rows t)) (set (sets (sets t (i * 32) (four_bytes x)) (i * 32 + 4) (four_bytes y)) (i * 32 + 12) kind) t

-- rows 0 to n - 1 are Solid blocks side by side, from the origin to the east
unfoldable pub put_line : Bytes → ℕ → Bytes
put_line t zero = t
put_line t (suc n) = put_block (put_line t n) n n 0 Solid
