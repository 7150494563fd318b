-- A pass as a test of each row: for the laws.
-- Assumes nothing.
use mathlib.Core.Bool.{Bool, true, false, not, ◌&&◌}
use Prim.Native.Nat.{ℕ, zero, suc}
use Rattle.columns.specs.Column.{Bytes}
use Rattle.columns.specs.First.{first_from, on_found}
use Rattle.world.specs.Rows.{kind_of}
use Rattle.supports.specs.Supports.{needs_support}
use Rattle.supports.specs.Rows.{support_row}
use Rattle.clearing.specs.Kept.{is_left}

module _ (p t : Bytes) where
  -- row i needs a support and has none among the rows at which f holds
  unfoldable pub lacks_among : (ℕ → Bool) → ℕ → Bool
  lacks_among f i = needs_support (kind_of t i) && not (on_found f false (support_row p t i))

  -- row i is left after k passes: `is_left`, by the rows of t themselves (`left_test`)
  unfoldable pub still_left : ℕ → ℕ → Bool
  still_left zero i = true
  still_left (suc k) i = still_left k i && not (lacks_among (still_left k) i)

  -- of the first n passes the first after which row i is no longer left, or 0
  unfoldable pub pass_within : ℕ → ℕ → ℕ
  pass_within n i = on_found (λ k. k) 0 (first_from (λ k. not (is_left p t k i)) n 1)
