-- A switch: `set_powered`.
-- Assumes nothing.
use Rattle.std.specs.Prelude.{cond, ℕ, ◌+◌, ◌*◌, set, eqb}
use Rattle.columns.specs.Column.{Bytes}
use Rattle.columns.specs.First.{on_found}
use Rattle.places.specs.declared.Pos.{Pos}
use Rattle.world.specs.Find.{find}

-- "writes byte 14 of the row at that position, or nothing if empty"; "any number but 0 is true"
unfoldable pub switched : Bytes → Pos → ℕ → Bytes
switched t q power = on_found (λ i. set t (i * 32 + 14) (cond (eqb power 0) 1 2)) t (find t q)
