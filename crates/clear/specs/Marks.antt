-- The passes as they are marked in a column, row by row: for the contracts of the steps. Nothing that the call promises rests on these.
-- Assumes nothing.
use Rattle.std.specs.Prelude.{Bool, cond, not, ◌&&◌, ◌||◌, ℕ, length, eqb, ltb}
use Rattle.columns.specs.Column.{Bytes, Column, row, tabulate}
use Rattle.columns.specs.First.{on_found, all_below}
use Rattle.world.specs.Rows.{rows, kind_of}
use Rattle.supports.specs.Supports.{needs_support}
use Rattle.supports.specs.Rows.{support_row}

-- what holds row i up: its support, where that supports components, 65,535 where there is none, and the row itself where it needs none
unfoldable pub holder_of : Bytes → Bytes → ℕ → ℕ
holder_of p t i = cond (needs_support (kind_of t i)) (on_found (λ j. j) 65535 (support_row p t i)) i

unfoldable pub holders_of : Bytes → Bytes → Column
holders_of p t = tabulate (rows t) (holder_of p t)

-- row i has no mark
abbrev pub unmarked : Column → ℕ → Bool
unmarked c i = eqb (row c i) 0

-- row i was left when pass n began: it has no mark, or that of the pass
abbrev pub left_at : Column → ℕ → ℕ → Bool
left_at c n i = eqb (row c i) 0 || eqb (row c i) n

-- of n rows, what holds row i up is not there, or f does not hold of it
abbrev pub lacks_holder : Column → ℕ → (ℕ → Bool) → ℕ → Bool
lacks_holder holders n f i = not (ltb (row holders i) n && f (row holders i))

module _ (holders : Column) where
  -- row i has no mark, and lacks what holds it up among the rows that f says are left
  abbrev pub goes : (ℕ → Bool) → Column → ℕ → Bool
  goes f c i = unmarked c i && lacks_holder holders (length c) f i

  -- the marks after pass n
  unfoldable pub marked : Column → ℕ → Column
  marked c n = tabulate (length c) (λ i. cond (goes (unmarked c) c i) n (row c i))

  -- a row goes
  unfoldable pub any_goes : Column → Bool
  any_goes c = not (all_below (λ i. not (goes (unmarked c) c i)) (length c))
