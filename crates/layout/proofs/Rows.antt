-- Document 02, Change 4: a good row beside one of document 01. Assumes nothing.
use mathlib.Core.Path.{◌≡◌}
use mathlib.Core.Logic.{by_cases}
use mathlib.Core.Bool.{Bool, ◌&&◌, and-true, and-false}
use Prim.Native.Nat.{ℕ}
use native.Mathlib.Decide.{dec_lt}
use native.Mathlib.Omega.{arith}
use lib.Dec.{leb, ltb}
use borrow.Author.Tests.{le-leb, lt-leb, le-ltb, lt-ltb}
use Rattle.columns.specs.Column.{Bytes}
use Rattle.world.specs.Rows.{byte_of, kind_of, pos_of}
use Rattle.layout.specs.Good.{good_place, good_value, good_support, good_arms, good_tail, good_row}

-- each field of row i is within document 01's layout: its kind is from 1 to 12
abbrev pub good_row01 : Bytes → ℕ → Bool
good_row01 t i =
    good_place (pos_of t i)
    && (leb 1 (byte_of t i 12) && leb (byte_of t i 12) 12 && leb (byte_of t i 13) 6 && leb (byte_of t i 14) 2)
    && good_value t i 15 && good_value t i 17 && good_support t i && good_arms t i && good_tail t i

-- a row that a profile of 13 bytes lets through is a good one of document 01, and the other way round
pub good_01 : (t : Bytes) (i : ℕ) → (good_row t i && ltb (kind_of t i) 13) ≡ good_row01 t i
unfolding good_row
good_01 t i =
    by_cases (dec_lt (kind_of t i) 13)
    (λ l. rw (lt-ltb (kind_of t i) 13 l, le-leb (kind_of t i) 13 (omega arith), le-leb (kind_of t i) 12 (omega arith)) (and-true _))
    (λ n. simp (le-ltb (kind_of t i) 13 (omega arith), lt-leb (kind_of t i) 12 (omega arith), and-false))
