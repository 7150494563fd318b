-- Laws of a number's bits, of the four bytes that hold them, and of the twelve bytes of a position.
-- Assumes nothing.
use mathlib.Core.Path.{◌≡◌, refl, ap, ◌∙◌}
use mathlib.Core.List.{[], ◌++◌}
use Prim.Native.Nat.{ℕ, ◌+◌, ◌-◌, ◌*◌, ◌/◌, ◌%◌, ◌≤◌, ◌<◌}
use native.Mathlib.Omega.{arith}
use lib.IntN.{ℤ, pos, negsuc}
use lib.Signed.{mag}
use lib.ListN.{length, drop, length-drop, drop_of_length-le}
use lib.Seq.{drop-drop, sets, sets-eq}
use borrow.Author.Tests.{lt-ltb, le-ltb}
use mir.Syntax.{w32}
use Rattle.std.specs.Int.{cast_unsigned}
use Rattle.columns.specs.Column.{Bytes}
use Rattle.words.specs.Words.{four_bytes}
use Rattle.words.proofs.FourBytes.{word_again}
use Rattle.places.specs.declared.Pos.{Pos}
use Rattle.places.specs.Signed.{signed32}
use Rattle.places.proofs.Steps.{InRange}
use Rattle.world.specs.Rows.{pos_of}
use Rattle.moving.specs.Move.{bits32, pos_bytes}

-- ---- the bits of a signed number of 32 bits

-- 32 bits hold them
pub bits_few : (z : ℤ) → mag z < 2147483648 → bits32 z < 4294967296
bits_few (pos n) h = omega arith
bits_few (negsuc n) h = omega arith

-- they are the library's
pub bits_are : (z : ℤ) → cast_unsigned w32 z ≡ bits32 z
bits_are (pos n) = refl
bits_are (negsuc n) = omega arith

-- "signed 32 bits": they are read as the number
signed_bits : (z : ℤ) → mag z < 2147483648 → signed32 (bits32 z) ≡ z
unfolding signed32
signed_bits (pos n) h = rw (lt-ltb n 2147483648 h)
signed_bits (negsuc n) h =
    let e : 4294967295 - (4294967295 - n) ≡ n = omega arith in
    rw (le-ltb (4294967295 - n) 2147483648 (omega arith), e)

-- ---- the bytes that are written

-- twelve bytes that are written four at a time
pub words_written : (x y z : ℕ) (s : Bytes) → length s ≡ 12 → sets (sets (sets s 0 (four_bytes x)) 4 (four_bytes y)) 8 (four_bytes z) ≡ four_bytes x ++ four_bytes y ++ four_bytes z
words_written x y z s e =
    let end : drop 4 (drop 4 (drop 4 s)) ≡ [] = rw (drop-drop 4 4 (drop 4 s), drop-drop 8 4 s) (drop_of_length-le s {i = 12} (omega arith)) in
    let first : sets s 0 (four_bytes x) ≡ four_bytes x ++ drop 4 s = sets-eq (four_bytes x) s 0 (omega arith) in
    let second : sets (four_bytes x ++ drop 4 s) 4 (four_bytes y) ≡ four_bytes x ++ four_bytes y ++ drop 4 (drop 4 s) =
    sets-eq (four_bytes y) (four_bytes x ++ drop 4 s) 4 (simp length-drop (omega arith)) in
    let third : sets (four_bytes x ++ four_bytes y ++ drop 4 (drop 4 s)) 8 (four_bytes z) ≡ four_bytes x ++ four_bytes y ++ four_bytes z ++ drop 4 (drop 4 (drop 4 s)) =
    sets-eq (four_bytes z) (four_bytes x ++ four_bytes y ++ drop 4 (drop 4 s)) 8 (simp length-drop (omega arith)) in
    ap (λ t. sets (sets t 4 (four_bytes y)) 8 (four_bytes z)) first ∙ ap (λ t. sets t 8 (four_bytes z)) second ∙ third ∙ rw end

-- ---- the bytes read back

-- bytes 0 to 11 are read as the position
pub pos_back : (q : Pos) (rest : Bytes) → InRange q → pos_of (pos_bytes q ++ rest) 0 ≡ q
unfolding pos_of pos_bytes
pos_back q rest r = λ i. record { x = back q.x r.x i; y = back q.y r.y i; z = back q.z r.z i }
  where
    back : (z : ℤ) → mag z ≤ 1000000 → signed32 (bits32 z % 256 + bits32 z / 256 % 256 * 256 + bits32 z / 65536 % 256 * 65536 + bits32 z / 16777216 % 256 * 16777216) ≡ z
    back z h = ap signed32 (word_again (bits32 z) (bits_few z (omega arith))) ∙ signed_bits z (omega arith)
