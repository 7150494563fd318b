-- The largest of several levels.
-- Assumes nothing.
use Rattle.std.specs.Prelude.{Bool, cond, ℕ, zero, suc, max}

-- the largest of f 0 to f (n - 1), and 0 where n is 0
unfoldable pub top : ℕ → (ℕ → ℕ) → ℕ
top zero f = 0
top (suc n) f = max (top n f) (f n)

-- "Each takes the largest arriving": of the levels of the rows below n with an edge to row i
unfoldable pub arriving : ℕ → (ℕ → ℕ → Bool) → (ℕ → ℕ) → ℕ → ℕ
arriving n edge level i = top n (λ j. cond (edge j i) (level j) 0)
