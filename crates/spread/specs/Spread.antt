-- What spreads along the edges of a network in columns.
-- Assumes nothing.
use Rattle.std.specs.Prelude.{cond, ℕ, ◌-◌, max, length, eqb}
use Rattle.columns.specs.Column.{Column, row, tabulate}
use Rattle.network.specs.Levels.{arriving}
use Rattle.circuit.specs.Circuit.{edge_in}
use Rattle.circuit.specs.declared.Edge.{Edge}

-- row i raised to the level, where it is below that
unfoldable pub raised : Column → ℕ → ℕ → Column
raised s i level = tabulate (length s) (λ m. max (row s m) (cond (eqb m i) level 0))

module _ (edge : Edge) (near class : Column) where
  -- every row that row j has the edge to raised to the level
  unfoldable pub spread_from : ℕ → ℕ → Column → Column
  spread_from j level s = tabulate (length s) (λ i. max (row s i) (cond (edge_in near class edge j i) level 0))

  -- every row raised to the largest that arrives along the edge, of the levels less so much
  unfoldable pub spread : ℕ → Column → Column → Column
  spread loss levels s =
      tabulate (length s) (λ i. max (row s i) (arriving (length levels) (edge_in near class edge) (λ j. row levels j - loss) i))
