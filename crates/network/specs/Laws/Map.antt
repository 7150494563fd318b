-- "power 0 off the map": no power arrives at a row that is not on it.
-- Proved laws: nobody has to believe them, or read them to know what is promised. Assumes nothing.
use Rattle.std.specs.Prelude.{◌≡◌, false, ℕ}
use Rattle.std.proofs.Common.{◌∙◌, arith}
use Rattle.std.proofs.Math.Logic.{by_cases}
use Rattle.std.proofs.Math.Decide.{dec_lt}
use Rattle.columns.specs.Column.{Column, row, tabulate}
use Rattle.columns.proofs.Columns.{row_tabulate}
use Rattle.network.specs.Levels.{arriving}
use Rattle.network.specs.Network.{Network, strong_of, weak_of}
use Rattle.network.specs.Compare.{PowerOnMap}
use Rattle.network.specs.Laws.Kept.{row_past}
use Rattle.network.specs.Laws.Gather.{arriving_none}

-- a row is 0 where its rule is
row_zero : (n : ℕ) (f : ℕ → ℕ) (k : ℕ) → f k ≡ 0 → row (tabulate n f) k ≡ 0
row_zero n f k h = by_cases (dec_lt k n) (λ l. row_tabulate n f k l ∙ h) (λ l. row_past n f k (omega arith))

module _ (N : Network) (o : PowerOnMap N) (i : ℕ) (off : N.mapped i ≡ false) where
  pub strong_of_off : (e : Column) → row (strong_of N e) i ≡ 0
  unfolding strong_of
  strong_of_off e = row_zero _ _ i (arriving_none _ _ _ i (λ j _. o.emitted_to_strong j i off))

  pub weak_of_off : (g s : Column) → row (weak_of N g s) i ≡ 0
  unfolding weak_of
  weak_of_off g s =
      let t : arriving N.size N.strong_to_weak (row g) i ≡ 0 = arriving_none _ _ _ i (λ j _. o.strong_to_weak j i off) in
      let u : arriving N.size N.dust_to_weak (row s) i ≡ 0 = arriving_none _ _ _ i (λ j _. o.dust_to_weak j i off) in
      row_zero _ _ i (rw (t, u))
