-- `support_issues`: the rows whose support is missing or does not support components.
-- Assumes nothing.
use Rattle.std.specs.Prelude.{◌≡◌, Bool, false, not, ◌&&◌, List, [], ◌∷◌, ℕ, length, eqb}
use Rattle.columns.specs.Column.{Bytes, Column, at_front}
use Rattle.columns.specs.First.{on_found, indices_from}
use Rattle.blocks.specs.Kind.{RedstoneWire, RedstoneTorch, Repeater, Comparator, Lever, one_of}
use Rattle.world.specs.Rows.{rows, kind_of, support_of}
use Rattle.world.specs.Find.{find_at}
use Rattle.traits.specs.Traits.{traits}
use Rattle.refusals.specs.Check.{Checked, also, check_input, answer_of, written}

-- "dust, torches, repeaters, comparators and levers"
abbrev pub needs_support : ℕ → Bool
needs_support k = one_of (RedstoneWire ∷ RedstoneTorch ∷ Repeater ∷ Comparator ∷ Lever ∷ []) k

-- row i has a support that supports components
unfoldable pub is_supported : Bytes → Bytes → ℕ → Bool
is_supported p t i = on_found (λ j. (traits p t j).supports) false (find_at t (support_of t i))

-- "whose support is missing or does not support components"
unfoldable pub lacks_support : Bytes → Bytes → ℕ → Bool
lacks_support p t i = needs_support (kind_of t i) && not (is_supported p t i)

-- "lists, in row order"
unfoldable pub support_issues : Bytes → Bytes → List ℕ
support_issues p t = indices_from (lacks_support p t) (rows t) 0

-- 1 to 5, 10, and 7: "an output column .. not one entry per row", of the column's length
unfoldable pub check_supports : Bytes → Bytes → ℕ → Checked
check_supports p t entries = also (check_input p t) 7 (eqb entries (rows t))

-- The whole of a call: "Row numbers go to the front of a lent 16-bit column, the rest untouched; the count is returned".
pub record Listed (p t : Bytes) (column column' : Column) (r : ℕ) : Type 0 where
  pub answer : r ≡ answer_of (check_supports p t (length column)) (length (support_issues p t))
  pub entries : column' ≡ written (check_supports p t (length column)) column (at_front (support_issues p t) column)
