-- The row of a support: for the contract of its look-up. Nothing that a call promises rests on this.
-- Assumes nothing.
use Rattle.std.specs.Prelude.{ℕ}
use Rattle.columns.specs.declared.Found.{Found}
use Rattle.columns.specs.declared.Found.TheVariants.{Nothing}
use Rattle.columns.specs.Column.{Bytes}
use Rattle.columns.specs.First.{found_if, on_found}
use Rattle.world.specs.Rows.{support_of}
use Rattle.world.specs.Find.{find_at}
use Rattle.traits.specs.Traits.{traits}

-- of row i, where it supports components
unfoldable pub support_row : Bytes → Bytes → ℕ → Found
support_row p t i = on_found (λ j. found_if (traits p t j).supports j Nothing) Nothing (find_at t (support_of t i))
