-- The columns of an accepted table are those of its rows, and have its network.
-- Assumes nothing.
use mathlib.Core.Path.{ap, ap₂}
use mathlib.Core.Bool.{◌||◌}
use Prim.Native.Nat.{ℕ, ◌<◌}
use lib.ListN.{length}
use Rattle.columns.specs.Column.{Bytes}
use Rattle.network.specs.Laws.SameEdges.{SameEdges}
use Rattle.blocks.specs.Kind.{is_dust}
use Rattle.world.specs.Rows.{rows}
use Rattle.refusals.specs.Accepted.{Table}
use Rattle.edges.specs.Edges.{network_of}
use Rattle.circuit.specs.Circuit.{Shaped, circuit}
use Rattle.adjacency.specs.Adjacency.{near_of}
use Rattle.prepare.specs.Classes.{classes_of}
use Rattle.prepare.proofs.Rows.{shaped_by, length_classes, class-at}
use Rattle.prepare.proofs.Blocks.{emitted-to-strong, strong-to-weak, dust-to-weak}
use Rattle.prepare.proofs.Dust.{emitted-to-dust, strong-to-dust}
use Rattle.prepare.proofs.Transmits.{transmits_alike}

pub prepared_shaped : (p t : Bytes) → Table t → Shaped (near_of t) (classes_of p t)
prepared_shaped p t a = shaped_by t (classes_of p t) a (length_classes p t)

pub circuit_of_table : (p t : Bytes) → Table t → SameEdges (circuit (near_of t) (classes_of p t)) (network_of p t)
unfolding circuit network_of
circuit_of_table p t a =
    let row : (i : ℕ) → i < length (classes_of p t) → i < rows t = λ i l. rw (length_classes p t) at l in
    record {
      size = length_classes p t;
      dust = λ i l. ap is_dust (class-at p t a i (row i l)).kind;
      mapped = λ i l. ap₂ ◌||◌ (class-at p t a i (row i l)).weak (class-at p t a i (row i l)).strong;
      emitted_to_strong = λ j i h l. emitted-to-strong p t a j i (row j h) (row i l);
      strong_to_weak = λ j i h l. strong-to-weak p t a j i (row j h) (row i l);
      dust_to_weak = λ j i h l. dust-to-weak p t a j i (row j h) (row i l);
      transmits = λ j i h l. transmits_alike p t a j i (row j h) (row i l);
      emitted_to_dust = λ j i h l. emitted-to-dust p t a j i (row j h) (row i l);
      strong_to_dust = λ j i h l. strong-to-dust p t a j i (row j h) (row i l);
    }
