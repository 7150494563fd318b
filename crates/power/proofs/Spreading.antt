-- Laws of what spreads over a column of zeros, and once more over that.
-- Assumes nothing.
use mathlib.Core.Path.{◌≡◌, ap, ◌∙◌}
use Prim.Native.Nat.{ℕ, ◌-◌, max}
use native.Mathlib.Omega.{arith}
use lib.ListN.{length}
use Rattle.columns.specs.Column.{Column, row, tabulate}
use Rattle.columns.proofs.Columns.{length_tabulate, row_tabulate, same_rule}
use Rattle.network.specs.Levels.{arriving}
use Rattle.circuit.specs.declared.Edge.{Edge}
use Rattle.circuit.specs.Circuit.{edge_in}
use Rattle.spread.specs.Spread.{spread}

module _ (edge : Edge) (near class levels : Column) (sized : length levels ≡ length class) where
  whole : (i : ℕ) → arriving (length levels) (edge_in near class edge) (λ j. row levels j - 0) i ≡ arriving (length class) (edge_in near class edge) (row levels) i
  whole i =
      let same : (j : ℕ) → row levels j - 0 ≡ row levels j = λ j. omega arith in
      ap (λ n. arriving n (edge_in near class edge) (λ j. row levels j - 0) i) sized
      ∙ (λ x. arriving (length class) (edge_in near class edge) (λ j. same j x) i)

  -- over a column that a rule gives
  pub spread_over : (n : ℕ) (f : ℕ → ℕ) {s out : Column} → out ≡ spread edge near class 0 levels s → s ≡ tabulate n f → n ≡ length class
      → out ≡ tabulate (length class) (λ i. max (f i) (arriving (length class) (edge_in near class edge) (row levels) i))
  unfolding spread
  spread_over n f {s} is was long =
      let here : length s ≡ length class = ap length was ∙ length_tabulate n 0 f ∙ long in
      is
      ∙ ap (λ m. tabulate m (λ i. max (row s i) (arriving (length levels) (edge_in near class edge) (λ j. row levels j - 0) i))) here
      ∙ same_rule (length class) _ _ (λ i l. rw (was, row_tabulate n f i (rw long l), whole i))

  -- over zeros
  pub spread_zeros : (n : ℕ) {s out : Column} → out ≡ spread edge near class 0 levels s → s ≡ tabulate n (λ _. 0) → n ≡ length class
      → out ≡ tabulate (length class) (arriving (length class) (edge_in near class edge) (row levels))
  spread_zeros n is was long = spread_over n (λ _. 0) is was long ∙ same_rule (length class) _ _ (λ i l. omega arith)
