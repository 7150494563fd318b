-- The searches of the keys for those above one bound and at most another.
-- Assumes nothing.
use Rattle.std.specs.Prelude.{◌≡◌, Bool, true, false, ◌&&◌, ℕ, ◌+◌, ◌-◌, ◌≤◌, ◌<◌, length, ltb, leb}
use Rattle.columns.specs.Column.{Column, row}
use Rattle.circuit.specs.Circuit.{some_below}

-- the key is between the bounds: above the one, and at most the other
abbrev pub is_within : ℕ → ℕ → ℕ → Bool
is_within low high key = ltb low key && leb key high

-- some row from row i on, before row p, has such a key
unfoldable pub any_within : Column → ℕ → ℕ → ℕ → ℕ → Bool
any_within keys low high i p = some_below (λ k. is_within low high (row keys (i + k))) (p - i)

-- no row from row i on, before row p, has such a key
pub record Skipped (keys : Column) (low high i p : ℕ) : Type 0 where
  pub from : i ≤ p
  pub inside : p ≤ length keys
  pub others : (k : ℕ) → i ≤ k → k < p → is_within low high (row keys k) ≡ false

-- and row p, if there is one, has
pub record Reached (keys : Column) (low high i p : ℕ) : Type 0 where
  pub skipped : Skipped keys low high i p
  pub found : p < length keys → is_within low high (row keys p) ≡ true
