-- The settled columns and the number of rounds, by the keys of the dust.
-- Assumes nothing.
use Rattle.std.specs.Prelude.{◌≡◌, cond, ℕ, ◌+◌, max, length}
use Rattle.columns.specs.Column.{Column, row, tabulate}
use Rattle.network.specs.Levels.{arriving}
use Rattle.network.specs.Laws.Keys.{level_of}
use Rattle.blocks.specs.Kind.{is_dust}
use Rattle.circuit.specs.declared.Edge.TheVariants.{DustToWeak}
use Rattle.classes.specs.Class.{kind_in}
use Rattle.circuit.specs.Circuit.{edge_in}
use Rattle.power.specs.Power.{none_mapped}
use Rattle.keys.specs.Rounds.{last_of, last_shown}

-- the largest key of the dust that gives each row weak power
unfoldable pub under_of : Column → Column → Column → Column
under_of near class keys = tabulate (length class) (arriving (length class) (edge_in near class DustToWeak) (row keys))

-- the level of dust is that of its key; "Every other row's signal is its emitted level"
unfoldable pub signals_by : Column → Column → Column → Column
signals_by class e keys = tabulate (length class) (λ i. cond (is_dust (kind_in (row class i))) (level_of (row keys i)) (row e i))

-- weak power from strong power, or from dust
unfoldable pub weak_by : Column → Column → Column
weak_by base under = tabulate (length base) (λ i. max (row base i) (level_of (row under i)))

-- one more than the last round of dust; and two more than the last that shows as weak power, where the map has any row
unfoldable pub rounds_from : Column → Column → Column → Column → ℕ
rounds_from class keys base under = max (last_of keys + 1) (cond (none_mapped class) 0 (last_shown base under + 2))

-- one entry for each of n rows in the emitted levels, and in the columns that are written
pub record Outputs (n : ℕ) (emitted signal weak strong : Column) : Type 0 where
  pub emitted_rows : length emitted ≡ n
  pub signal_rows : length signal ≡ n
  pub weak_rows : length weak ≡ n
  pub strong_rows : length strong ≡ n

-- room for the weak power from strong power, for the direct levels and then the largest keys, and for the keys
pub record Room (n : ℕ) (base under keys : Column) : Type 0 where
  pub base_rows : length base ≡ n
  pub under_rows : length under ≡ n
  pub keys_rows : length keys ≡ n
