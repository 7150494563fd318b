-- The steps to the places by a row, as numbers. A step is packed as a position is, each coordinate counted from -1 on.
-- Assumes nothing.
use Rattle.std.specs.Prelude.{cond, ℕ, ◌+◌, ◌-◌, ◌*◌, ◌%◌, eqb}
use Rattle.columns.specs.Column.{Bytes}
use Rattle.world.specs.Rows.{byte_of}
use Rattle.classes.specs.Towards.{Above}

-- one cell along x and along y; along z it is 1
abbrev pub step_x : ℕ
step_x = 4398046511104

abbrev pub step_y : ℕ
step_y = 2097152

-- no step
abbrev pub here : ℕ
here = step_x + step_y + 1

-- to a place but the support: beside along the facings, above, below
abbrev pub step_to : ℕ → ℕ
step_to k =
    cond (eqb k 0) (here - 1)
    (cond (eqb k 1) (here + step_x)
    (cond (eqb k 2) (here + 1) (cond (eqb k 3) (here - step_x) (cond (eqb k Above) (here + step_y) (here - step_y)))))

-- a byte of a support's offset, counted from -1 on
abbrev pub unit_of : ℕ → ℕ
unit_of b = (b + 1) % 256

-- to the support, where it is given
abbrev pub support_step : Bytes → ℕ → ℕ
support_step t i = unit_of (byte_of t i 20) * step_x + (unit_of (byte_of t i 21) * step_y + unit_of (byte_of t i 22))
