-- The state of a row: "16 bytes a row", each field by its name, and which values are within the layout.
-- Assumes nothing.
use Rattle.std.specs.Prelude.{Bool, cond, not, ◌&&◌, ◌||◌, ℕ, zero, suc, ◌+◌, ◌*◌, ◌/◌, ◌%◌, ◌^◌, min, max, get_or, eqb, leb, ltb}
use Rattle.columns.specs.Column.{Bytes}
use Rattle.columns.specs.First.{all_below}
use Rattle.blocks.specs.Kind.{RedstoneTorch, Repeater, RedstoneLamp, CopperBulb}
use Rattle.world.specs.Rows.{kind_of, delay_or}
use Rattle.emitted.specs.Emitted.{good_device}

-- ---- the fields of a row's sixteen bytes r

-- 0: "device byte"
abbrev pub device_of : Bytes → ℕ
device_of r = get_or r 0 0

-- 1: "repeater queue, oldest at bit 0"
abbrev pub queue_of : Bytes → ℕ
queue_of r = get_or r 1 0

-- 2: "lamp lit 0/1"; of a bulb, "its light"
abbrev pub lit_of : Bytes → ℕ
lit_of r = get_or r 2 0

-- 3: "ticks left until a dark lamp goes out"
abbrev pub left_of : Bytes → ℕ
left_of r = get_or r 3 0

-- 4-7: "torch toggles, low byte first, bit j for a toggle j ticks ago"
abbrev pub toggles_of : Bytes → ℕ
toggles_of r = get_or r 4 0 + get_or r 5 0 * 256 + get_or r 6 0 * 65536 + get_or r 7 0 * 16777216

-- 8: "candidate 0/1"
abbrev pub candidate_of : Bytes → ℕ
candidate_of r = get_or r 8 0

-- 9: of a bulb, "whether it had power after the last tick"
abbrev pub had_power_of : Bytes → ℕ
had_power_of r = get_or r 9 0

-- ---- what the fields are held against

-- "delay 1 if missing and clamped to 1-4"
unfoldable pub delay_of : Bytes → ℕ → ℕ
delay_of t i = min 4 (max 1 (delay_or t i 1))

-- the number of bits set among the low n
unfoldable pub bits_set : ℕ → ℕ → ℕ
bits_set zero w = 0
bits_set (suc n) w = w % 2 + bits_set n (w / 2)

-- "eight or more toggle bits are set"
unfoldable pub is_candidate : ℕ → Bool
is_candidate toggles = leb 8 (bits_set 31 toggles)

-- ---- rows within the layout; that a device byte is at most 15 is number 10's, in `check_state`

-- "the rest 0"
abbrev pub good_rest : Bytes → Bool
good_rest r = all_below (λ k. eqb (get_or r (10 + k) 0) 0) 6

module _ (t : Bytes) (i : ℕ) (r : Bytes) where
  -- "one bit per tick of delay, bit 0 equal to byte 0"; "Bytes of another kind's device are 0"
  unfoldable pub good_queue : Bool
  good_queue =
      cond (eqb (kind_of t i) Repeater)
      (ltb (queue_of r) (2 ^ delay_of t i) && eqb (queue_of r % 2) (device_of r))
      (eqb (queue_of r) 0)

  -- "lamp lit 0/1"; "ticks left .., 0-2, 0 if unlit"; a bulb's light "0 or 1", and its byte 3 is 0
  unfoldable pub good_light : Bool
  good_light =
      cond (eqb (kind_of t i) RedstoneLamp)
      (leb (lit_of r) 1 && (leb (left_of r) 2 && (eqb (lit_of r) 1 || eqb (left_of r) 0)))
      (cond (eqb (kind_of t i) CopperBulb) (leb (lit_of r) 1 && eqb (left_of r) 0) (eqb (lit_of r) 0 && eqb (left_of r) 0))

  -- "j from 0 to 30"; "candidate 0/1, 1 where eight or more toggle bits are set"
  unfoldable pub good_torch : Bool
  good_torch =
      cond (eqb (kind_of t i) RedstoneTorch)
      (ltb (toggles_of r) (2 ^ 31) && (leb (candidate_of r) 1 && (eqb (candidate_of r) 1 || not (is_candidate (toggles_of r)))))
      (eqb (toggles_of r) 0 && eqb (candidate_of r) 0)

  -- "both 0 or 1 and byte 9 zero for other kinds"
  unfoldable pub good_had_power : Bool
  good_had_power = cond (eqb (kind_of t i) CopperBulb) (leb (had_power_of r) 1) (eqb (had_power_of r) 0)

  -- the sixteen bytes r of row i are within the layout
  unfoldable pub good_state : Bool
  good_state =
      good_device (kind_of t i) (device_of r) && (good_queue && (good_light && (good_torch && (good_had_power && good_rest r))))
