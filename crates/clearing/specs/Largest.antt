-- Sets of rows in which every row that needs support has it. That what is kept is the largest of them is `kept_largest` of proofs/Clearing.
-- What stands in quotation marks is document 02's, Change 7.
-- Assumes nothing.
use Rattle.std.specs.Prelude.{◌≡◌, Bool, true, ℕ, ◌<◌, Some}
use Rattle.columns.specs.Column.{Bytes}
use Rattle.world.specs.Rows.{rows, pos_of, kind_of, support_of}
use Rattle.traits.specs.Traits.{traits}
use Rattle.supports.specs.Supports.{needs_support}

-- row i of t is held up by row j: that stands where row i has its support, and supports components
pub record HeldUpBy (p t : Bytes) (i j : ℕ) : Type 0 where
  pub inside : j < rows t
  pub stands : support_of t i ≡ Some (pos_of t j)
  pub supports : (traits p t j).supports ≡ true

-- A set of rows of t is a test of their numbers. Row i has a support in the set.
pub record HasSupport (p t : Bytes) (set : ℕ → Bool) (i : ℕ) : Type 0 where
  pub support : ℕ
  pub among : set support ≡ true
  pub holds : HeldUpBy p t i support

-- "every row that needs support has it", in the set
abbrev pub EverySupported : Bytes → Bytes → (ℕ → Bool) → Type 0
EverySupported p t set = (i : ℕ) → i < rows t → set i ≡ true → needs_support (kind_of t i) ≡ true → HasSupport p t set i

-- "the largest set of rows in which every row that needs support has it": it is such a set, and every such set lies within it
pub record Largest (p t : Bytes) (set : ℕ → Bool) : Type 0 where
  pub every : EverySupported p t set
  pub largest : (other : ℕ → Bool) → EverySupported p t other → (i : ℕ) → i < rows t → other i ≡ true → set i ≡ true
