-- What is kept, and the pass in which each row went. What stands in quotation marks is document 02's, Change 7.
-- Assumes nothing.
use Rattle.std.specs.Prelude.{◌≡◌, Bool, true, not, List, ℕ, ◌<◌, length}
use Rattle.columns.specs.Column.{Bytes, Column, row, tabulate}
use Rattle.columns.specs.First.{first_from, on_found}
use Rattle.blocks.specs.Kind.{one_of}
use Rattle.world.specs.Rows.{rows}
use Rattle.subtables.specs.Subtable.{table_of}
use Rattle.passes.specs.Passes.{issues_among, left, Until}
use Rattle.passes.specs.Search.{first_none}
use Rattle.passes.proofs.Laws.{first_none_until}

-- row i goes in pass k + 1: it is left after k passes, and named by the support list of what is left then
pub record Goes (p t : Bytes) (k i : ℕ) : Type 0 where
  pub at : ℕ
  pub inside : at < length (left p t k)
  pub is : row (left p t k) at ≡ i
  pub named : one_of (issues_among p t (left p t k)) at ≡ true

-- the number of passes "until none is named", and that it is
pub record Clearing (p t : Bytes) : Type 0 where
  pub passes : ℕ
  pub until : Until p t passes

-- There is one, for every profile and table. How it is found makes no difference: no other number is (`passes_are` of proofs/Going).
unfoldable pub clearing : (p t : Bytes) → Clearing p t
clearing p t = record { passes = first_none p t; until = first_none_until p t }

module _ (p t : Bytes) where
  -- How many passes there are. The last look, by which none is named, is no pass: else a table without rows would have one, against "The passes are
  -- bounded by the row count" (`passes_few` of proofs/Going).
  unfoldable pub passes_of : ℕ
  passes_of = (clearing p t).passes

  -- The numbers of the rows that are kept: "the largest set of rows in which every row that needs support has it" (`kept_largest` of proofs/Clearing).
  unfoldable pub kept_rows : List ℕ
  kept_rows = left p t passes_of

  -- "the kept rows", as a table
  unfoldable pub kept_table : Bytes
  kept_table = table_of t kept_rows

  -- row i is left after k passes
  abbrev pub is_left : ℕ → ℕ → Bool
  is_left k i = one_of (left p t k) i

  -- "the pass from 1 in which it went, or 0": the first after which row i is no longer left
  unfoldable pub pass_of : ℕ → ℕ
  pass_of i = on_found (λ k. k) 0 (first_from (λ k. not (is_left k i)) passes_of 1)

  -- "per input row"
  unfoldable pub pass_column : Column
  pass_column = tabulate (rows t) pass_of
