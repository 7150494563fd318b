-- The numbers that a table settles to, as three columns hold them, and what is read of them at a row.
-- Assumes nothing.
use Rattle.std.specs.Prelude.{Bool, cond, not, ℕ, max, eqb}
use Rattle.columns.specs.Column.{Column, row}

-- "signal, weak and strong columns"
pub record Numbers : Type 0 where
  pub signal : Column
  pub weak : Column
  pub strong : Column

abbrev pub numbers : Column → Column → Column → Numbers
numbers signal weak strong = record { signal = signal; weak = weak; strong = strong }

-- the larger of weak and strong power at row i
abbrev pub power_at : Column → Column → ℕ → ℕ
power_at weak strong i = max (row weak i) (row strong i)

abbrev pub has_power : Column → Column → ℕ → Bool
has_power weak strong i = not (eqb (power_at weak strong i) 0)

-- what is on or off as a number
abbrev pub number : Bool → ℕ
number b = cond b 1 0

-- "each is the largest of signal, weak and strong"
abbrev pub electrical_level : Numbers → ℕ → ℕ
electrical_level s j = max (row s.signal j) (power_at s.weak s.strong j)
