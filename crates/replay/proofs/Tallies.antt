-- Laws of the loop that replays a file.
-- Assumes nothing.
use mathlib.Core.Path.{◌≡◌, refl, ◌∙◌}
use mathlib.Core.Bool.{Bool, true, false}
use Prim.Native.Nat.{ℕ, zero, suc, ◌+◌, ◌≤◌}
use native.Mathlib.Omega.{arith}
use lib.ListN.{length, length-drop}
use borrow.Author.Tests.{leb-true}
use Rattle.columns.specs.Column.{Bytes}
use Rattle.std.specs.Int.{from_bool}
use Rattle.words.specs.Words.{word}
use Rattle.replay.specs.Operations.{is_right}
use Rattle.replay.specs.Replay.{starts_whole, first_record, later_records, count_if, ended, tally_from, tally_of}

-- a flag as a number
pub counted : (b : Bool) (n : ℕ) → n + from_bool b ≡ count_if b n
counted true n = refl
counted false n = omega arith

pub count_most : (b : Bool) (n : ℕ) → count_if b n ≤ n + 1
count_most true n = omega arith
count_most false n = omega arith

tally_more : (n : ℕ) (s : Bytes) (records right : ℕ) → starts_whole s ≡ true → tally_from (suc n) s records right ≡ tally_from n (later_records s) (records + 1) (count_if (is_right (first_record s)) right)
unfolding tally_from
tally_more n s records right w = rw w

tally_all : (n : ℕ) (s : Bytes) (records right : ℕ) → starts_whole s ≡ false → tally_from n s records right ≡ ended s records right
unfolding tally_from
tally_all zero s records right w = refl
tally_all (suc n) s records right w = rw w

-- ---- after so many records, of which so many were right, this is left

pub record Replayed (s : Bytes) (records right : ℕ) (rest : Bytes) : Type 0 where
  pub few : records + length rest ≤ length s
  pub some : right ≤ records
  -- at most so many records are left
  pub most : ℕ
  pub enough : length rest ≤ most
  pub is : tally_of s ≡ tally_from most rest records right

pub replayed_none : (s : Bytes) → Replayed s 0 0 s
unfolding tally_of
replayed_none s = record { few = omega arith; some = omega arith; most = length s; enough = omega arith; is = refl }

module _ {s rest : Bytes} {records right : ℕ} (h : Replayed s records right rest) where
  pub replayed_more : starts_whole rest ≡ true → Replayed s (records + 1) (count_if (is_right (first_record rest)) right) (later_records rest)
  replayed_more w = go h.most h.enough h.is (leb-true (4 + word rest) (length rest) w)
    where
      go : (n : ℕ) → length rest ≤ n → tally_of s ≡ tally_from n rest records right → 4 + word rest ≤ length rest
          → Replayed s (records + 1) (count_if (is_right (first_record rest)) right) (later_records rest)
      go zero e i f = absurd (omega arith)
      go (suc n) e i f =
          record {
            few = rw length-drop (omega (arith, h.few));
            some = omega (arith, h.some, count_most (is_right (first_record rest)) right);
            most = n;
            enough = rw length-drop (omega arith);
            is = i ∙ tally_more n rest records right w;
          }

  pub replayed_all : starts_whole rest ≡ false → tally_of s ≡ ended rest records right
  replayed_all w = h.is ∙ tally_all h.most rest records right w
