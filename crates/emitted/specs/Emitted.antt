-- Device columns, and the levels that the rows of a table emit with one. What stands in quotation marks is document 01's or, of number 10, document
-- 02's, Change 5.
-- Assumes nothing.
use Rattle.std.specs.Prelude.{◌≡◌, Bool, cond, not, ◌||◌, [], ◌∷◌, ℕ, min, length, eqb, leb}
use Rattle.columns.specs.Column.{Bytes, Column, row, tabulate}
use Rattle.columns.specs.Signal.{max_signal}
use Rattle.blocks.specs.Kind.{RedstoneTorch, Repeater, Comparator, RedstoneBlock, is_switch, one_of}
use Rattle.world.specs.Rows.{rows, kind_of, is_powered, level_or}
use Rattle.refusals.specs.Check.{Checked, accepted, check_values}

-- what is on or off: torch and repeater
abbrev pub is_on_off : ℕ → Bool
is_on_off k = one_of (RedstoneTorch ∷ Repeater ∷ []) k

-- ---- valid device columns

-- "repeater powered or torch lit 0/1, comparator 0-255, other kinds 0", of the kind k and the byte b; a comparator's above 15 is good here, and
-- number 10's in `check_devices`
unfoldable pub good_device : ℕ → ℕ → Bool
good_device k b = cond (is_on_off k) (leb b 1) (eqb k Comparator || eqb b 0)

abbrev pub is_bad_device : Bytes → Column → ℕ → Bool
is_bad_device t d i = not (good_device (kind_of t i) (row d i))

-- 6 bad state: "device column .. of wrong length or value"; 10 overdriven: "Device bytes above 15"
unfoldable pub check_devices : Bytes → Column → Checked
check_devices t d = check_values (eqb (length d) (rows t)) (is_bad_device t d) (row d) (rows t)

-- "a device column of it is valid if none falls on the column"
abbrev pub IsValid : Bytes → Column → Type 0
IsValid t d = check_devices t d ≡ accepted

-- ---- emitted levels

-- "lever, button or plate with powered true, its level capped at 15 (15 if missing)", else 0
unfoldable pub switch_level : Bytes → ℕ → ℕ
switch_level t i = cond (is_powered t i) (min max_signal (level_or t i max_signal)) 0

-- of row i, whose device byte is b: "redstone block 15; lever, button or plate ..; lit torch or powered repeater 15; comparator
-- its byte, not capped; else 0". With a valid column it is "at most 15 for every kind": `emits_at_most_15`
unfoldable pub emitted_level : Bytes → ℕ → ℕ → ℕ
emitted_level t i b =
    cond (eqb (kind_of t i) RedstoneBlock) max_signal
    (cond (is_switch (kind_of t i)) (switch_level t i)
    (cond (is_on_off (kind_of t i)) (cond (eqb b 0) 0 max_signal) (cond (eqb (kind_of t i) Comparator) b 0)))

-- of every row, with the device column d
unfoldable pub emitted : Bytes → Column → Column
emitted t d = tabulate (rows t) (λ i. emitted_level t i (row d i))
