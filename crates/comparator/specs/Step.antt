-- What a tick gives a comparator: of row i, with the old settled numbers s.
-- Assumes nothing.
use Rattle.std.specs.Prelude.{Bool, cond, ℕ, ◌-◌, max, leb, Option, Some, None}
use Rattle.columns.specs.Column.{Bytes}
use Rattle.columns.specs.First.{on_found}
use Rattle.places.specs.declared.Pos.{Pos}
use Rattle.world.specs.Rows.{is_subtract}
use Rattle.world.specs.Find.{find, find_at}
use Rattle.connectivity.specs.Ports.{input_of, sides_of}
use Rattle.levels.specs.Numbers.{Numbers, electrical_level}

-- 0 where nothing stands
abbrev pub level_at : Bytes → Numbers → Pos → ℕ
level_at t s q = on_found (electrical_level s) 0 (find t q)

abbrev pub side_level : Bytes → Numbers → Option (Pos × Pos) → ℕ
side_level t s (Some (a, b)) = max (level_at t s a) (level_at t s b)
side_level t s None = 0

-- "gives rear, 0 if below the larger side, or in subtract mode rear less side, least 0"
unfoldable pub compared : Bool → ℕ → ℕ → ℕ
compared subtract rear side = cond subtract (rear - side) (cond (leb side rear) rear 0)

unfoldable pub next_comparator : Bytes → Numbers → ℕ → ℕ
next_comparator t s i =
    compared (is_subtract t i) (on_found (electrical_level s) 0 (find_at t (input_of t i))) (side_level t s (sides_of t i))
