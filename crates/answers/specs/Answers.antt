-- Whether the proved functions answer as the original did, by operation, of the parts of a record: operations 1 to 3, 5 and 6.
-- Assumes nothing.
use Rattle.std.specs.Prelude.{Bool, ◌&&◌, ℕ, ◌*◌, length, get_or, eqb}
use Rattle.columns.specs.Column.{Bytes}
use Rattle.columns.specs.First.{all_below}
use Rattle.places.specs.declared.Pos.{Pos}
use Rattle.places.specs.Places.{same_pos, offset}
use Rattle.world.specs.Rows.{rows}
use Rattle.world.specs.Find.{find, kind_at}
use Rattle.traits.specs.Traits.{traits}
use Rattle.names.specs.Names.{shape_of_name}
use Rattle.probe.specs.Numbers.{row_number, kind_properties, traits_number}
use Rattle.records.specs.Record.{entry}

-- ---- traits of every row

-- row i has the traits whose number is entry i
abbrev pub trait_agrees : Bytes → Bytes → Bytes → ℕ → Bool
trait_agrees p t want i = eqb (traits_number (traits p t i)) (entry want i)

unfoldable pub traits_agree : Bytes → Bytes → Bytes → Bool
traits_agree p t want = eqb (length want) (rows t * 2) && all_below (trait_agrees p t want) (rows t)

-- ---- the shape of a name

unfoldable pub shape_agrees : Bytes → Bytes → Bytes → ℕ → Bool
shape_agrees name type half shape = eqb (shape_of_name name type half) shape

-- ---- look-up

unfoldable pub find_agrees : Bytes → Pos → ℕ → ℕ → Bool
find_agrees t q number kind = eqb (row_number (find t q)) number && eqb (kind_at t q) kind

-- ---- properties by kind

abbrev pub property_agrees : Bytes → Bytes → ℕ → Bool
property_agrees p want k = eqb (kind_properties p k) (get_or want k 0)

unfoldable pub properties_agree : Bytes → Bytes → Bool
properties_agree p want = all_below (property_agrees p want) 14

-- ---- positions

unfoldable pub offset_agrees : Pos → Pos → Pos → Bool
offset_agrees q d want = same_pos (offset q d.x d.y d.z) want
