-- The largest signal.
-- Assumes nothing.
use Rattle.std.specs.Prelude.{ℕ, ◌≤◌}
use Rattle.columns.specs.Column.{Column, row}

-- `MAX_SIGNAL`: the cap on the level of dust, the level of a source that says none, and the most that a comparator's given level or device byte may
-- be (document 02, Change 5)
abbrev pub max_signal : ℕ
max_signal = 15

-- no number of the three columns is above it
pub record AtMost15 (signal weak strong : Column) : Type 0 where
  pub signals : (i : ℕ) → row signal i ≤ max_signal
  pub weaks : (i : ℕ) → row weak i ≤ max_signal
  pub strongs : (i : ℕ) → row strong i ≤ max_signal
