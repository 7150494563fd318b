-- The shape of a name, and of the block state's `type` and `half` (each empty where it is missing).
-- Assumes nothing.
use Rattle.std.specs.Prelude.{Bool, cond, ◌&&◌, ◌||◌, ℕ, ◌-◌, length, drop, leb}
use Rattle.columns.specs.Column.{Bytes, same}
use Rattle.columns.specs.Ascii.{ascii}
use Rattle.traits.specs.Shapes.{Plain, BottomSlab, TopSlab, DoubleSlab, BottomStairs, TopStairs, Glass}

abbrev pub ends_with : Bytes → Bytes → Bool
ends_with end s = leb (length end) (length s) && same (drop (length s - length end) s) end

-- "`type` top, double, else bottom"
abbrev pub slab_shape : Bytes → ℕ
slab_shape type = cond (same type (ascii "top")) TopSlab (cond (same type (ascii "double")) DoubleSlab BottomSlab)

-- "`half` top, else bottom"
abbrev pub stairs_shape : Bytes → ℕ
stairs_shape half = cond (same half (ascii "top")) TopStairs BottomStairs

-- "`minecraft:glass` or `minecraft:tinted_glass`"
abbrev pub is_glass : Bytes → Bool
is_glass name = same name (ascii "minecraft:glass") || same name (ascii "minecraft:tinted_glass")

-- "ending `_slab` first .., then `_stairs` .., then `minecraft:glass` or `minecraft:tinted_glass`; else plain"
unfoldable pub shape_of_name : Bytes → Bytes → Bytes → ℕ
shape_of_name name type half =
    cond (ends_with (ascii "_slab") name) (slab_shape type)
    (cond (ends_with (ascii "_stairs") name) (stairs_shape half) (cond (is_glass name) Glass Plain))
