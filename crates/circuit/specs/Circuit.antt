-- A network in two columns. `near` has seven entries for each row, in seven columns one after the other: the rows to the North, East, South and West,
-- above and below, and the row of its support. `class` has one entry for each row.
-- Assumes nothing.
use Rattle.std.specs.Prelude.{◌≡◌, Bool, true, false, cond, not, ◌&&◌, ◌||◌, ℕ, zero, suc, ◌+◌, ◌-◌, ◌*◌, ◌≤◌, length, eqb, ltb}
use Rattle.columns.specs.Column.{Column, row, tabulate}
use Rattle.network.specs.Network.{Network}
use Rattle.blocks.specs.Kind.{is_dust}
use Rattle.places.specs.Places.{opposite}
use Rattle.classes.specs.Class.{weak_in, strong_in, drives_in, kind_in, arm_in, rises_by_in}
use Rattle.classes.specs.Towards.{places, Above, Below, charges_in, feeds_in, leads_in, touched_in}
use Rattle.circuit.specs.declared.Edge.{Edge}
use Rattle.circuit.specs.declared.Edge.TheVariants.{EmittedToStrong, StrongToWeak, DustToWeak, Transmits, EmittedToDust, StrongToDust}

-- the entry where there is no row
abbrev pub no_row : ℕ
no_row = 65535

-- the columns are those of so many rows
pub record Shaped (near class : Column) : Type 0 where
  pub few : length class ≤ 1024
  pub long : length near ≡ places * length class

-- the row where it has the edge
abbrev pub sink_if : Bool → ℕ → ℕ
sink_if true i = i
sink_if false i = no_row

module _ (near class : Column) where
  -- the row at place k by row j
  unfoldable pub beside_in : ℕ → ℕ → ℕ
  beside_in j k = cond (ltb j (length class)) (row near (k * length class + j)) no_row

  -- ---- the rows that an edge leads to from row j, where it has the edge

  -- along the facing f + 1: power goes to dust beside, above the cell beside, or below it
  unfoldable pub level_sink : ℕ → ℕ → ℕ
  level_sink j f =
      let i = beside_in j f in
      sink_if (leads_in (row class j) f && touched_in (row class i) f) i

  unfoldable pub upper_sink : ℕ → ℕ → ℕ
  upper_sink j f =
      let a = beside_in j f in
      let i = beside_in a Above in
      sink_if (is_dust (kind_in (row class j)) && (is_dust (kind_in (row class i)) && rises_by_in (row class a) (arm_in (row class j) (f + 1)))) i

  unfoldable pub lower_sink : ℕ → ℕ → ℕ
  lower_sink j f =
      let b = beside_in j Below in
      let i = beside_in b f in
      sink_if
      (is_dust (kind_in (row class j))
      && (is_dust (kind_in (row class i)) && (drives_in (row class b) && rises_by_in (row class b) (arm_in (row class i) (opposite (f + 1))))))
      i

  unfoldable pub sink_of : Edge → ℕ → ℕ → ℕ
  sink_of EmittedToStrong j k = let i = beside_in j k in sink_if (charges_in (row class j) k && strong_in (row class i)) i
  sink_of StrongToWeak j k = let i = beside_in j k in sink_if (weak_in (row class i)) i
  sink_of DustToWeak j k = let i = beside_in j k in sink_if (leads_in (row class j) k && weak_in (row class i)) i
  sink_of Transmits j k = cond (ltb k 4) (level_sink j k) (cond (ltb k 8) (upper_sink j (k - 4)) (lower_sink j (k - 8)))
  sink_of EmittedToDust j k = let i = beside_in j k in sink_if (feeds_in (row class j) k && touched_in (row class i) k) i
  sink_of StrongToDust j k =
      let i = beside_in j k in
      sink_if (not (feeds_in (row class j) k) && (drives_in (row class j) && touched_in (row class i) k)) i

-- how many rows it may lead to
abbrev pub ways : Edge → ℕ
ways EmittedToStrong = 7
ways StrongToWeak = 6
ways DustToWeak = 6
ways Transmits = 12
ways EmittedToDust = 6
ways StrongToDust = 6

-- the test holds at some index below n
unfoldable pub some_below : (ℕ → Bool) → ℕ → Bool
some_below f zero = false
some_below f (suc n) = some_below f n || f n

-- an edge of the columns from row j to row i
unfoldable pub edge_in : Column → Column → Edge → ℕ → ℕ → Bool
edge_in near class e j i = ltb i (length class) && some_below (λ k. eqb (sink_of near class e j k) i) (ways e)

-- the network of the columns
unfoldable pub circuit : Column → Column → Network
circuit near class =
    record {
      size = length class;
      dust = λ i. is_dust (kind_in (row class i));
      mapped = λ i. weak_in (row class i) || strong_in (row class i);
      emitted_to_strong = edge_in near class EmittedToStrong;
      strong_to_weak = edge_in near class StrongToWeak;
      dust_to_weak = edge_in near class DustToWeak;
      transmits = edge_in near class Transmits;
      emitted_to_dust = edge_in near class EmittedToDust;
      strong_to_dust = edge_in near class StrongToDust;
    }

-- the signals of rows of these classes where the dust has the levels x: those of a network with the classes
unfoldable pub signals_in : Column → Column → (ℕ → ℕ) → Column
signals_in class e x = tabulate (length class) (λ i. cond (is_dust (kind_in (row class i))) (x i) (row e i))
