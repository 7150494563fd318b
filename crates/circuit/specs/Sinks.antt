-- What stands in contracts of inner functions: parts of `sink_of`, and which rows can have an edge at all. No call of the editor speaks of them.
-- Assumes nothing.
use Rattle.std.specs.Prelude.{Bool, true, ◌&&◌, ℕ, ◌+◌}
use Rattle.columns.specs.Column.{Column, row}
use Rattle.blocks.specs.Kind.{is_dust}
use Rattle.places.specs.Places.{opposite}
use Rattle.classes.specs.Class.{weak_in, strong_in, drives_in, kind_in, arm_in, rises_by_in}
use Rattle.classes.specs.Towards.{Above, touched_in}
use Rattle.circuit.specs.Circuit.{sink_if, beside_in}
use Rattle.circuit.specs.declared.Edge.{Edge}
use Rattle.circuit.specs.declared.Edge.TheVariants.{EmittedToStrong, StrongToWeak, DustToWeak, Transmits, EmittedToDust, StrongToDust}

-- false only where a row of the class c has the edge to no row
abbrev pub sends_in : Edge → ℕ → Bool
sends_in EmittedToStrong c = true
sends_in StrongToWeak c = true
sends_in DustToWeak c = is_dust (kind_in c)
sends_in Transmits c = is_dust (kind_in c)
sends_in EmittedToDust c = true
sends_in StrongToDust c = drives_in c

module _ (near class : Column) where
  -- the row at place k by row j, where it receives strong power
  abbrev pub strong_sink : ℕ → ℕ → ℕ
  strong_sink j k = let i = beside_in near class j k in sink_if (strong_in (row class i)) i

  -- the same of weak power
  abbrev pub weak_sink : ℕ → ℕ → ℕ
  weak_sink j k = let i = beside_in near class j k in sink_if (weak_in (row class i)) i

  -- the dust at place k that touches row j
  abbrev pub touched_sink : ℕ → ℕ → ℕ
  touched_sink j k = let i = beside_in near class j k in sink_if (touched_in (row class i) k) i

  -- the dust above row a, where a rises by the arm
  abbrev pub over_sink : ℕ → ℕ → ℕ
  over_sink a arm = let i = beside_in near class a Above in sink_if (is_dust (kind_in (row class i)) && rises_by_in (row class a) arm) i

  -- the dust beside row b along the facing f + 1, where b drives dust and rises by its arm
  abbrev pub side_sink : ℕ → ℕ → ℕ
  side_sink b f =
      let i = beside_in near class b f in
      sink_if (is_dust (kind_in (row class i)) && (drives_in (row class b) && rises_by_in (row class b) (arm_in (row class i) (opposite (f + 1))))) i
