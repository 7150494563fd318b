-- The kinds of block, by their number in byte 12 of a row: the `BlockKind` of the original.
-- Assumes nothing.
use Rattle.std.specs.Prelude.{Bool, false, ◌||◌, List, [], ◌∷◌, ℕ, eqb}

-- "0 is Air and never stored"
abbrev pub Air : ℕ
Air = 0

abbrev pub Solid : ℕ
Solid = 1

abbrev pub Transparent : ℕ
Transparent = 2

abbrev pub RedstoneWire : ℕ
RedstoneWire = 3

abbrev pub RedstoneTorch : ℕ
RedstoneTorch = 4

abbrev pub Repeater : ℕ
Repeater = 5

abbrev pub Comparator : ℕ
Comparator = 6

abbrev pub Lever : ℕ
Lever = 7

abbrev pub Button : ℕ
Button = 8

abbrev pub PressurePlate : ℕ
PressurePlate = 9

abbrev pub RedstoneLamp : ℕ
RedstoneLamp = 10

abbrev pub RedstoneBlock : ℕ
RedstoneBlock = 11

abbrev pub Piston : ℕ
Piston = 12

-- "Kind 13 is a bulb": document 02, Change 4. The original has none
abbrev pub CopperBulb : ℕ
CopperBulb = 13

-- the number is one of the list
abbrev pub one_of : List ℕ → ℕ → Bool
one_of [] k = false
one_of (x ∷ xs) k = eqb k x || one_of xs k

abbrev pub is_dust : ℕ → Bool
is_dust k = eqb k RedstoneWire

-- "lever, button, plate": what a player switches
abbrev pub is_switch : ℕ → Bool
is_switch k = one_of (Lever ∷ Button ∷ PressurePlate ∷ []) k

-- "lever, button, plate, torch, redstone block": what feeds and joins dust on every side
abbrev pub is_source : ℕ → Bool
is_source k = one_of (Lever ∷ Button ∷ PressurePlate ∷ RedstoneTorch ∷ RedstoneBlock ∷ []) k

-- "repeater and comparator": what has an input and an output side
abbrev pub is_diode : ℕ → Bool
is_diode k = one_of (Repeater ∷ Comparator ∷ []) k
