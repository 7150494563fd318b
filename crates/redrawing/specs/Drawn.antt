-- `update_wire_shapes`: "infers every dust's arms, drops None, where exactly one is left adds its opposite as Side, and sets the
-- stored byte".
-- Assumes nothing.
use Rattle.std.specs.Prelude.{Bool, cond, not, ◌&&◌, ℕ, ◌+◌, eqb, set}
use Rattle.blocks.specs.Kind.{is_dust}
use Rattle.columns.specs.Column.{Bytes, part, concat_rows}
use Rattle.places.specs.declared.Pos.{Pos}
use Rattle.places.specs.Places.{North, East, South, West}
use Rattle.world.specs.Rows.{rows, pos_of, kind_of}
use Rattle.traits.specs.Traits.{ArmSide, is_arm}
use Rattle.arms.specs.Arms.{infer_wire_connection}
use Rattle.redrawing.specs.declared.Arms.{Arms}

-- "drops None": the inferred arm of dust at q as an entry, 0 where it is None
unfoldable pub entry_of : Bytes → Bytes → Pos → ℕ → ℕ
entry_of p t q f = cond (is_arm (infer_wire_connection p t q f)) (infer_wire_connection p t q f) 0

-- "infers .. arms": those of row i, as if it were dust
unfoldable pub entries_of : Bytes → Bytes → ℕ → Arms
entries_of p t i =
    record {
      north = entry_of p t (pos_of t i) North;
      east = entry_of p t (pos_of t i) East;
      south = entry_of p t (pos_of t i) South;
      west = entry_of p t (pos_of t i) West;
    }

-- how many entries are left
abbrev pub counted : ℕ → ℕ
counted e = cond (eqb e 0) 0 1

abbrev pub entries_left : Arms → ℕ
entries_left a = counted a.north + counted a.east + counted a.south + counted a.west

-- "where exactly one is left adds its opposite as Side": Side where the entry opposite is the one that is left, else the own entry
abbrev pub added : Bool → ℕ → ℕ → ℕ
added alone back own = cond (alone && not (eqb back 0)) ArmSide own

unfoldable pub with_opposite : Arms → Arms
with_opposite a =
    record {
      north = added (eqb (entries_left a) 1) a.south a.north;
      east = added (eqb (entries_left a) 1) a.west a.east;
      south = added (eqb (entries_left a) 1) a.north a.south;
      west = added (eqb (entries_left a) 1) a.east a.west;
    }

-- the arms that row i is drawn with
abbrev pub drawn_arms : Bytes → Bytes → ℕ → Arms
drawn_arms p t i = with_opposite (entries_of p t i)

-- a row with these arms, and "sets the stored byte": bytes 23 and 24-27, "arms stored 0/1; North, East, South, West"
unfoldable pub drawn : Bytes → Arms → Bytes
drawn r a = set (set (set (set (set r 23 1) 24 a.north) 25 a.east) 26 a.south) 27 a.west

-- "every dust's arms": the 32 bytes of row i, with every other byte, and every other kind's row, as it was
unfoldable pub redrawn_row : Bytes → Bytes → ℕ → Bytes
redrawn_row p t i = cond (is_dust (kind_of t i)) (drawn (part 32 t i) (drawn_arms p t i)) (part 32 t i)

-- all rows so. Bytes past the last whole row, for which a table is refused, are left out
unfoldable pub update_wire_shapes : Bytes → Bytes → Bytes
update_wire_shapes p t = concat_rows (rows t) (redrawn_row p t)
