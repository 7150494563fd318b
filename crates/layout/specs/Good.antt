-- A good profile, and a good row: each field within the layout.
-- Assumes nothing.
use Rattle.std.specs.Prelude.{Bool, cond, ◌&&◌, ◌||◌, ℕ, ◌+◌, length, get_or, eqb, leb, ℤ, pos, negsuc}
use Rattle.std.specs.Int.Signed.{le_z}
use Rattle.columns.specs.Column.{Bytes}
use Rattle.columns.specs.First.{all_below}
use Rattle.blocks.specs.Kind.{RedstoneTorch}
use Rattle.places.specs.declared.Pos.{Pos}
use Rattle.world.specs.Rows.{byte_of, pos_of}

-- the most that the byte of a kind may be, "a byte above 31" being number 1: "Number 1 now lets the torch's byte reach 63"
abbrev pub most_of : ℕ → ℕ
most_of kind = cond (eqb kind RedstoneTorch) 63 31

-- "the profile may have 14 bytes"
abbrev pub good_length : Bytes → Bool
good_length p = eqb (length p) 13 || eqb (length p) 14

-- none of the first 14 bytes is above the most of its kind; past the end a byte is 0
abbrev pub low_bytes : Bytes → Bool
low_bytes p = all_below (λ k. leb (get_or p k 0) (most_of k)) 14

-- number 1 does not fall on the profile: "not 13 bytes, Air not 0, or a byte above 31", but that it may have 14 bytes, and the torch's be 63
unfoldable pub good_profile : Bytes → Bool
good_profile p = good_length p && (eqb (get_or p 0 0) 0 && low_bytes p)

-- "each from -1,000,000 to 1,000,000"
abbrev pub in_range : ℤ → Bool
in_range c = le_z (negsuc 999999) c && le_z c (pos 1000000)

-- bytes 0 to 11, of the row's position
unfoldable pub good_place : Pos → Bool
good_place q = in_range q.x && in_range q.y && in_range q.z

module _ (t : Bytes) (i : ℕ) where
  -- 12 to 14: kind 1 to 13 ("0 is Air and never stored"; "Kind 13 is a bulb"), facing 0 to 6, powered 0 to 2
  abbrev pub good_kind : Bool
  good_kind = leb 1 (byte_of t i 12) && leb (byte_of t i 12) 13 && leb (byte_of t i 13) 6 && leb (byte_of t i 14) 2

  -- "given 0/1, its value 0-255"; "A value whose "given" or "stored" byte is 0 is 0"
  abbrev pub good_value : ℕ → Bool
  good_value b = (eqb (byte_of t i b) 0 && eqb (byte_of t i (b + 1)) 0) || eqb (byte_of t i b) 1

  -- the byte at b is 0 and so are the n bytes after it, or it is 1 and they pass the test
  abbrev pub good_values : ℕ → ℕ → (ℕ → Bool) → Bool
  good_values b n test =
      (eqb (byte_of t i b) 0 && all_below (λ k. eqb (byte_of t i (b + 1 + k)) 0) n)
      || (eqb (byte_of t i b) 1 && all_below (λ k. test (byte_of t i (b + 1 + k))) n)

-- "as signed bytes -1 to 1"
abbrev pub is_unit : ℕ → Bool
is_unit b = leb b 1 || eqb b 255

-- "0 no entry, 1 None, 2 Side, 3 Up"
abbrev pub is_entry : ℕ → Bool
is_entry b = leb b 3

module _ (t : Bytes) (i : ℕ) where
  -- 19, 20-22: "support offset given 0/1, its dx, dy, dz"
  abbrev pub good_support : Bool
  good_support = good_values t i 19 3 is_unit

  -- 23, 24-27: "arms stored 0/1; North, East, South, West"
  abbrev pub good_arms : Bool
  good_arms = good_values t i 23 4 is_entry

  -- 28 to 31: shape 0 to 6, mode 0 or 1, 0, 0
  abbrev pub good_tail : Bool
  good_tail = leb (byte_of t i 28) 6 && leb (byte_of t i 29) 1 && eqb (byte_of t i 30) 0 && eqb (byte_of t i 31) 0

  -- each field of row i is within the layout
  unfoldable pub good_row : Bool
  good_row =
      good_place (pos_of t i) && good_kind t i && good_value t i 15 && good_value t i 17 && good_support && good_arms && good_tail
