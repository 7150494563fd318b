-- Redraws and switches of a table, one after the other.
-- Assumes nothing.
use Rattle.std.specs.Prelude.{Bool, true, false, List, [], ◌∷◌, ℕ}
use Rattle.columns.specs.Column.{Bytes}
use Rattle.places.specs.declared.Pos.{Pos}
use Rattle.switching.specs.Switch.{switched}
use Rattle.redrawing.specs.Drawn.{update_wire_shapes}

-- a redraw, or a switch of a position to a given power
pub data Edit : Type 0 where
  Redraw : Edit
  Switch : Pos → ℕ → Edit

-- the table after these, under one profile
unfoldable pub edited : Bytes → List Edit → Bytes → Bytes
edited p [] t = t
edited p (Redraw ∷ rest) t = edited p rest (update_wire_shapes p t)
edited p (Switch q power ∷ rest) t = edited p rest (switched t q power)

-- the switches among these
unfoldable pub switches_of : List Edit → List Edit
switches_of [] = []
switches_of (Redraw ∷ rest) = switches_of rest
switches_of (Switch q power ∷ rest) = Switch q power ∷ switches_of rest

-- one of these is a redraw
unfoldable pub has_redraw : List Edit → Bool
has_redraw [] = false
has_redraw (Redraw ∷ rest) = true
has_redraw (Switch q power ∷ rest) = has_redraw rest
