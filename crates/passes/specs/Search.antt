-- The search that finds how many passes there are.
-- Assumes nothing.
use Rattle.std.specs.Prelude.{Bool, ℕ, ◌+◌, length, eqb}
use Rattle.columns.specs.Column.{Bytes}
use Rattle.columns.specs.First.{first_from, on_found}
use Rattle.world.specs.Rows.{rows}
use Rattle.passes.specs.Passes.{issues_among, left}

module _ (p t : Bytes) where
  -- none is named after k passes
  abbrev pub none_named : ℕ → Bool
  none_named k = eqb (length (issues_among p t (left p t k))) 0

  -- the first number of passes after which none is named
  unfoldable pub first_none : ℕ
  first_none = on_found (λ k. k) 0 (first_from none_named (rows t + 1) 0)
