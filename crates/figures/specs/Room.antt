-- What the figures need, to count one table more.
-- Assumes nothing.
use Rattle.std.specs.Prelude.{◌≡◌, true, ℕ, ◌+◌, ◌≤◌, ◌<◌, ◌^◌, length}
use Rattle.columns.specs.Column.{Bytes, Column, row}
use Rattle.columns.specs.Signal.{max_signal}
use Rattle.blocks.specs.Kind.{is_dust}
use Rattle.world.specs.Rows.{rows, kind_of}
use Rattle.figures.specs.declared.Figures.{Figures}

-- no figure wraps with another table of at most 1,024 rows, and there are as many as their type says
pub record Room (f : Figures) : Type 0 where
  pub sized : (length f.rounds ≡ 17) × (length f.levels ≡ 16)
  pub tables : f.tables + 1 < 2 ^ 64
  pub refused : f.refused + 1 < 2 ^ 64
  pub rounds : (k : ℕ) → row f.rounds k + 1 < 2 ^ 64
  pub levels : (l : ℕ) → row f.levels l + 1024 < 2 ^ 64

-- the signals of a table of at most 1,024 rows, in which no dust is above the cap
pub record Capped (t : Bytes) (signal : Column) : Type 0 where
  pub few : rows t ≤ 1024
  pub sized : length signal ≡ rows t
  pub level : (i : ℕ) → i < rows t → is_dust (kind_of t i) ≡ true → row signal i ≤ max_signal
