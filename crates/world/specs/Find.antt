-- The look-up of a position: `World::get` and `World::kind_at`.
-- Assumes nothing.
use Rattle.std.specs.Prelude.{◌≡◌, Bool, false, not, ℕ, ◌+◌, ◌<◌, Option, Some, None}
use Rattle.blocks.specs.Kind.{Air}
use Rattle.places.specs.declared.Pos.{Pos}
use Rattle.columns.specs.declared.Found.{Found}
use Rattle.columns.specs.declared.Found.TheVariants.{Nothing}
use Rattle.columns.specs.Column.{Bytes}
use Rattle.columns.specs.First.{found_if, first_from, on_found}
use Rattle.places.specs.Places.{same_pos, before}
use Rattle.world.specs.Rows.{rows, pos_of, kind_of}

-- row i stands at q
abbrev pub stands_at : Bytes → Pos → ℕ → Bool
stands_at t q i = same_pos (pos_of t i) q

-- row i stands at q or past it: "ordered by x, then y, then z"
abbrev pub is_at_or_past : Bytes → Pos → ℕ → Bool
is_at_or_past t q i = not (before (pos_of t i) q)

-- "the first row at or past the position"
unfoldable pub first_at_or_past : Bytes → Pos → Found
first_at_or_past t q = first_from (is_at_or_past t q) (rows t) 0

-- the row found "if it stands at the position, else nothing"
abbrev pub if_standing : Bytes → Pos → Found → Found
if_standing t q first = on_found (λ i. found_if (stands_at t q i) i Nothing) Nothing first

-- the look-up: "that first row if it stands at the position, else nothing"
unfoldable pub find : Bytes → Pos → Found
find t q = if_standing t q (first_at_or_past t q)

-- ---- rows in order

-- "ordered by x, then y, then z": no row stands before the preceding one
pub record InOrder (t : Bytes) : Type 0 where
  pub not_before : (i : ℕ) → i + 1 < rows t → before (pos_of t (i + 1)) (pos_of t i) ≡ false

-- the first of all rows that stands at q: where no two stand at one position, as in a world of blocks, the row of `World::get`.
-- On rows in order `find` is the same (`find_in_order`)
unfoldable pub first_standing : Bytes → Pos → Found
first_standing t q = first_from (stands_at t q) (rows t) 0

-- ---- at a place, and the kind

-- the look-up at a place
abbrev pub find_at : Bytes → Option Pos → Found
find_at t (Some q) = find t q
find_at t None = Nothing

unfoldable pub kind_at : Bytes → Pos → ℕ
kind_at t q = on_found (kind_of t) Air (find t q)
