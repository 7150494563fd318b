-- Document 02, Change 4: on tables without bulbs the bulb's byte makes no difference to the redraw. Assumes nothing.
use mathlib.Core.Path.{◌≡◌, refl}
use Prim.Native.Nat.{ℕ}
use lib.ListN.{length}
use Rattle.columns.specs.Column.{Bytes, concat_rows}
use Rattle.blocks.proofs.Bulbs.{with_bulb}
use Rattle.places.specs.Places.{North, East, South, West}
use Rattle.world.specs.Rows.{rows, pos_of}
use Rattle.traits.proofs.Profiles.{traits_with_bulb}
use Rattle.refusals.specs.Check.{IsAccepted}
use Rattle.refusals.proofs.Bulbs.{no_bulb}
use Rattle.arms.specs.Arms.{infer_wire_connection}
use Rattle.arms.proofs.Profiles.{same_infer_by}
use Rattle.redrawing.specs.Drawn.{entry_of, entries_of, redrawn_row, update_wire_shapes}

-- of a table that 13 bytes accept, under these and a fourteenth
module _ (p t : Bytes) (long : length p ≡ 13) (h : IsAccepted p t) (b : ℕ) where
  row : (i : ℕ) → redrawn_row (with_bulb p b) t i ≡ redrawn_row p t i
  unfolding redrawn_row entries_of entry_of
  row i =
      let infer : (f : ℕ) → infer_wire_connection (with_bulb p b) t (pos_of t i) f ≡ infer_wire_connection p t (pos_of t i) f =
      same_infer_by (with_bulb p b) p t (traits_with_bulb p t long (no_bulb p t long h) b) (pos_of t i) in
      rw (infer North, infer East, infer South, infer West) refl

  pub redrawn_with_bulb : update_wire_shapes (with_bulb p b) t ≡ update_wire_shapes p t
  unfolding update_wire_shapes
  redrawn_with_bulb = λ x. concat_rows (rows t) (λ i. row i x)
