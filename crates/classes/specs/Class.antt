-- The class of a row: what settling asks of it, as one number. Bits 0 and 1 its rise, 2 to 5 its traits, 7 whether a torch charges the block above, 8 to 15
-- its kind, 16 to 23 its facing, and from 24 on the four arms, two bits each. A rise and an arm are 0 None, 1 Side, 2 Up here, so that 0 is the class of no
-- row.
-- Assumes nothing.
use Rattle.std.specs.Prelude.{Bool, cond, not, ◌&&◌, ℕ, ◌/◌, ◌%◌, eqb}
use Rattle.places.specs.Places.{North, East, South}

-- bit b of the number, by its value 2^b
abbrev pub has : ℕ → ℕ → Bool
has value c = eqb (c / value % 2) 1

abbrev pub rise_in : ℕ → ℕ
rise_in c = c % 4

abbrev pub blocks_in : ℕ → Bool
blocks_in = has 4

abbrev pub weak_in : ℕ → Bool
weak_in = has 8

abbrev pub strong_in : ℕ → Bool
strong_in = has 16

abbrev pub drives_in : ℕ → Bool
drives_in = has 32

abbrev pub charges_above_in : ℕ → Bool
charges_above_in = has 128

abbrev pub kind_in : ℕ → ℕ
kind_in c = c / 256 % 256

abbrev pub facing_in : ℕ → ℕ
facing_in c = c / 65536 % 256

-- the value of the lower bit of the arm along a horizontal facing
abbrev pub arm_value : ℕ → ℕ
arm_value f = cond (eqb f North) 16777216 (cond (eqb f East) 67108864 (cond (eqb f South) 268435456 1073741824))

abbrev pub arm_in : ℕ → ℕ → ℕ
arm_in c f = c / arm_value f % 4

-- there is an arm
abbrev pub has_arm_in : ℕ → ℕ → Bool
has_arm_in c f = not (eqb (arm_in c f) 0)

-- there is a rise, and it is that of the arm a
abbrev pub rises_by_in : ℕ → ℕ → Bool
rises_by_in c a = not (eqb (rise_in c) 0) && eqb (rise_in c) a
