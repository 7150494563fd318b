-- Law: redrawing an accepted table gives an accepted table.
-- Assumes nothing.
use mathlib.Core.Path.{◌≡◌, refl, sym, ◌∙◌}
use mathlib.Core.Bool.{Bool, true, false, cond, not, ◌&&◌}
use mathlib.Core.List.{[], ◌∷◌}
use Prim.Native.Nat.{ℕ, ◌*◌, ◌≤◌, ◌<◌}
use native.Mathlib.Omega.{arith}
use lib.Dec.{eqb}
use lib.ListN.{length, get_or}
use borrow.Author.Tests.{le-leb}
use Rattle.blocks.specs.Kind.{one_of}
use Rattle.blocks.specs.Profile.{supports_components}
use Rattle.columns.specs.Column.{Bytes, part}
use Rattle.columns.specs.declared.Found.{Found}
use Rattle.columns.specs.declared.Found.TheVariants.{At, Nothing}
use Rattle.columns.specs.First.{on_found}
use Rattle.columns.proofs.Parts.{length_part, part_at}
use Rattle.places.specs.declared.Pos.{Pos}
use Rattle.places.specs.Places.{is_horizontal, beside}
use Rattle.traits.specs.declared.BlockRedstoneTraits.{BlockRedstoneTraits}
use Rattle.world.specs.Rows.{rows, byte_of, kind_of, shape_of}
use Rattle.world.specs.Find.{find}
use Rattle.traits.specs.Traits.{ArmNone, ArmSide, ArmUp, is_arm, nothing, top_half, double_slab, glass, plain, of_shape, traits, traits_at}
use Rattle.layout.specs.Good.{good_arms}
use Rattle.layout.proofs.Fields.{Arms as ArmsField, good-field}
use Rattle.refusals.specs.Check.{IsAccepted}
use Rattle.refusals.proofs.Accepted.{accepted_input}
use Rattle.refusals.proofs.Again.{Changes, accepted_again}
use Rattle.arms.specs.Arms.{joins, rises, drops, infer_past, infer_wire_connection}
use Rattle.redrawing.specs.declared.Arms.{Arms}
use Rattle.redrawing.specs.Drawn.{entry_of, entries_of, entries_left, added, with_opposite, drawn, redrawn_row, update_wire_shapes}
use Rattle.redrawing.proofs.Rows.{is_arm_byte, HasArms, drawn-arms, by_kind}
use Rattle.redrawing.proofs.Redrawn.{redrawn_long, every_kept, redrawn_at}

-- ---- an entry is at most 3

small_of : (b : Bool) (m n : ℕ) → m ≤ 3 → n ≤ 3 → cond b m n ≤ 3
small_of true m n g h = g
small_of false m n g h = h

rise_of : (b : Bool) (r s : BlockRedstoneTraits) → r.rise ≤ 3 → s.rise ≤ 3 → (cond b r s).rise ≤ 3
rise_of true r s g h = g
rise_of false r s g h = h

module _ (p t : Bytes) where
  small_rise : (i : ℕ) → (traits p t i).rise ≤ 3
  unfolding traits plain of_shape
  small_rise i =
      let s = shape_of t i in
      rise_of (eqb s 0) (plain p (kind_of t i)) (of_shape s)
      (small_of (supports_components p (kind_of t i)) ArmUp ArmNone (omega arith) (omega arith))
      (rise_of (one_of (2 ∷ 5 ∷ []) s) top_half (cond (eqb s 3) double_slab (cond (eqb s 6) glass nothing)) (omega arith)
      (rise_of (eqb s 3) double_slab (cond (eqb s 6) glass nothing) (omega arith) (rise_of (eqb s 6) glass nothing (omega arith) (omega arith))))

  small_rise_at : (q : Pos) → (traits_at p t q).rise ≤ 3
  unfolding traits_at
  small_rise_at q = go (find t q)
    where
      go : (f : Found) → (on_found (traits p t) nothing f).rise ≤ 3
      go (At i) = small_rise i
      go Nothing = omega arith

  small_infer : (q : Pos) (f : ℕ) → infer_wire_connection p t q f ≤ 3
  unfolding infer_wire_connection infer_past
  small_infer q f =
      let side = beside q f in
      let rise = (traits_at p t side).rise in
      let low = cond (drops t side) ArmSide ArmNone in
      small_of (is_horizontal f) (infer_past p t q side f) ArmNone
      (small_of (joins t side f) ArmSide (cond (rises p t q side) rise low) (omega arith)
      (small_of (rises p t q side) rise low (small_rise_at side) (small_of (drops t side) ArmSide ArmNone (omega arith) (omega arith))))
      (omega arith)

  small_entry : (q : Pos) (f : ℕ) → entry_of p t q f ≤ 3
  unfolding entry_of
  small_entry q f = small_of (is_arm (infer_wire_connection p t q f)) (infer_wire_connection p t q f) 0 (small_infer q f) (omega arith)

record Small (a : Arms) : Type 0 where
  north : a.north ≤ 3
  east : a.east ≤ 3
  south : a.south ≤ 3
  west : a.west ≤ 3

small_entries : (p t : Bytes) (i : ℕ) → Small (entries_of p t i)
unfolding entries_of
small_entries p t i = record { north = small_entry p t _ _; east = small_entry p t _ _; south = small_entry p t _ _; west = small_entry p t _ _ }

small_opposite : (a : Arms) → Small a → Small (with_opposite a)
unfolding with_opposite
small_opposite a s =
    record {
      north = small a.south a.north s.north;
      east = small a.west a.east s.east;
      south = small a.north a.south s.south;
      west = small a.east a.west s.west;
    }
  where
    small : (back own : ℕ) → own ≤ 3 → added (eqb (entries_left a) 1) back own ≤ 3
    small back own h = small_of (eqb (entries_left a) 1 && not (eqb back 0)) ArmSide own (omega arith) h

-- ---- the arms of a row that is drawn

good_drawn : (r : Bytes) (a : Arms) → length r ≡ 32 → Small a → good_arms (drawn r a) 0 ≡ true
good_drawn r a w s =
    let d : HasArms (drawn r a) a = drawn-arms r a w in
    rw (d.stored, d.north, d.east, d.south, d.west, le-leb _ 3 s.north, le-leb _ 3 s.east, le-leb _ 3 s.south, le-leb _ 3 s.west)

-- ---- every row is good again

-- the arms of row i, where its bytes are r
row_arms : (s : Bytes) (i : ℕ) (r : Bytes) → ((b : ℕ) → b < 32 → byte_of s i b ≡ get_or r b 0) → good_arms s i ≡ good_arms r 0
row_arms s i r h = rw (h 23 (omega arith), h 24 (omega arith), h 25 (omega arith), h 26 (omega arith), h 27 (omega arith))

-- redrawing changes the arms alone, and they are good again
redrawn_changes : (p t : Bytes) → length t ≡ rows t * 32 → Changes (λ _. is_arm_byte) t (update_wire_shapes p t)
redrawn_changes p t w =
    record {
      long = redrawn_long p t w;
      agree = λ i b l e. every_kept p t w i b (l, e);
      places = λ i. refl;
      kinds = λ i. refl;
      levels = λ i. refl;
      good = λ i l g. rw (good-arms i l (good-field t i g ArmsField));
    }
  where
    good-arms : (i : ℕ) → i < rows t → good_arms t i ≡ true → good_arms (update_wire_shapes p t) i ≡ true
    good-arms i l g =
        let whole : length (part 32 t i) ≡ 32 = length_part 32 t i (omega arith) in
        let old : good_arms (part 32 t i) 0 ≡ true = sym (row_arms t i (part 32 t i) (λ b h. sym (part_at 32 t i b h))) ∙ g in
        row_arms (update_wire_shapes p t) i (redrawn_row p t i) (λ b h. redrawn_at p t i b l h)
        ∙ by_kind p t i (λ r. good_arms r 0 ≡ true) (good_drawn (part 32 t i) _ whole (small_opposite _ (small_entries p t i))) old

-- a redrawn table is accepted where the table is
pub redrawn_accepted : (p t : Bytes) → IsAccepted p t → IsAccepted p (update_wire_shapes p t)
redrawn_accepted p t h = accepted_again (redrawn_changes p t (accepted_input p t h).1.whole) p h
