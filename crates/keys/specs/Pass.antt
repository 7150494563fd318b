-- The pass over the keys, level by level from 15 down to 2: what holds of them when the dust of some levels has given its key, less 17, to the dust that
-- it transmits to.
-- Assumes nothing.
use Rattle.std.specs.Prelude.{◌≡◌, Bool, true, cond, ℕ, ◌-◌, ◌*◌, ◌≤◌, ◌<◌, min, max, length, ltb}
use Rattle.columns.specs.Column.{Column, row, tabulate}
use Rattle.columns.specs.Signal.{max_signal}
use Rattle.network.specs.Levels.{arriving}

-- the key that each direct level is, which is capped
unfoldable pub own_keys : Column → Column
own_keys direct = tabulate (length direct) (λ i. 16 * min max_signal (row direct i))

-- Of the keys x of n rows, each with a key of its own: none is above that of level 15, none is lower than its own, none is higher than what it is given, and
-- what a key above the floor of its row gives has arrived.
pub record Given (n : ℕ) (edge : ℕ → ℕ → Bool) (own floor : ℕ → ℕ) (x : Column) : Type 0 where
  pub sized : length x ≡ n
  pub low : (i : ℕ) → row x i ≤ 240
  pub least : (i : ℕ) → i < n → own i ≤ row x i
  pub most : (i : ℕ) → i < n → row x i ≤ max (own i) (arriving n edge (λ j. row x j - 17) i)
  pub arrived : (j i : ℕ) → j < n → i < n → edge j i ≡ true → floor j < row x j → row x j - 17 ≤ row x i

-- the floor of each row while the rows of a level are passed: those before row j have been
abbrev pub floor_at : ℕ → ℕ → ℕ → ℕ
floor_at level j k = cond (ltb k j) (16 * level - 16) (16 * level)

-- One level passed, which takes keys for which all levels above it have been passed to keys for which it has been too; nothing is said of other keys.
pub record Passes (n : ℕ) (edge : ℕ → ℕ → Bool) (level : ℕ) (x y : Column) : Type 0 where
  pub next : (own : ℕ → ℕ) → Given n edge own (λ _. 16 * level) x → Given n edge own (λ _. 16 * level - 16) y

-- The rule for keys gives y back, where x are the keys of their own.
pub record Kept (n : ℕ) (edge : ℕ → ℕ → Bool) (x y : Column) : Type 0 where
  pub sized : length y ≡ n
  pub low : (i : ℕ) → row y i ≤ 240
  pub rule : (i : ℕ) → i < n → row y i ≡ max (row x i) (arriving n edge (λ j. row y j - 17) i)
