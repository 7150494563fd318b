-- Passes over a table, each of which removes the rows that the support list names. What stands in quotation marks is document 02's, Change 7.
-- Assumes nothing.
use Rattle.std.specs.Prelude.{◌≡◌, true, not, List, [], ◌∷◌, ℕ, zero, suc, ◌+◌, ◌<◌}
use Rattle.columns.specs.Column.{Bytes}
use Rattle.columns.specs.First.{keep_if, indices_from}
use Rattle.blocks.specs.Kind.{one_of}
use Rattle.world.specs.Rows.{rows}
use Rattle.supports.specs.Supports.{support_issues}
use Rattle.subtables.specs.Subtable.{table_of}

-- of some numbers, the first of which has the index k, those whose index the list does not name
unfoldable pub unnamed_from : List ℕ → ℕ → List ℕ → List ℕ
unnamed_from names k [] = []
unnamed_from names k (i ∷ rest) = let later = unnamed_from names (k + 1) rest in keep_if (not (one_of names k)) i later

module _ (p t : Bytes) where
  -- the support list of the table that some rows of t make: it names the k-th of them, counted from 0, by the number k
  abbrev pub issues_among : List ℕ → List ℕ
  issues_among numbers = support_issues p (table_of t numbers)

  -- the numbers of the rows that are left after k passes. A pass "removes every row named by the support list" of what is left.
  unfoldable pub left : ℕ → List ℕ
  left zero = indices_from (λ i. true) (rows t) 0
  left (suc k) = let numbers = left k in unnamed_from (issues_among numbers) 0 numbers

  -- "looks again, and repeats until none is named": after k passes none is, and after fewer there is one
  pub record Until (k : ℕ) : Type 0 where
    pub none : issues_among (left k) ≡ []
    pub not_yet : (j : ℕ) → j < k → ¬ (issues_among (left j) ≡ [])
