-- Document 02, Change 8, redraw and switch in either order: its sentences as theorems. They hold of every table, whatever its bytes, and of
-- every profile; neither need be accepted. When it is redrawn, a table counts as its whole rows. What the calls leave in the buffers is told in
-- crates/either_order.
-- Assumes nothing.
use mathlib.Core.Path.{◌≡◌, refl, ap, sym, ◌∙◌}
use mathlib.Core.Logic.{inl, inr, ⊎_elim, by_cases}
use mathlib.Core.Bool.{Bool, true, false, cond, false≢true}
use mathlib.Core.List.{List, [], ◌∷◌}
use Prim.Native.Nat.{ℕ, ◌+◌, ◌*◌, ◌<◌}
use native.Mathlib.Decide.{ℕ_discrete}
use native.Mathlib.Omega.{arith}
use lib.Dec.{eqb}
use lib.ListN.{length, set, length-set}
use lib.Seq.{get_or-set_other}
use Rattle.blocks.specs.Kind.{is_dust}
use Rattle.columns.specs.Column.{Bytes, part}
use Rattle.columns.specs.declared.Found.{Found}
use Rattle.columns.specs.declared.Found.TheVariants.{At, Nothing}
use Rattle.columns.specs.First.{on_found}
use Rattle.columns.proofs.Parts.{length_part, is_concat_rows, part_set_own, part_set_other}
use Rattle.places.specs.declared.Pos.{Pos}
use Rattle.world.specs.Rows.{rows, kind_of}
use Rattle.world.specs.Find.{find}
use Rattle.world.proofs.Finding.{same_find}
use Rattle.wire.proofs.Alike.{Read, Alike, same_rows, same_kind, same_place, everywhere}
use Rattle.switching.specs.Switch.{switched}
use Rattle.redrawing.specs.Drawn.{drawn_arms, drawn, redrawn_row, update_wire_shapes}
use Rattle.redrawing.specs.Edits.{Edit, Redraw, Switch, edited, switches_of, has_redraw}
use Rattle.redrawing.proofs.Rows.{is_arm_byte, drawn_same, drawn-arms, drawn_set, same_drawn}
use Rattle.redrawing.proofs.Redrawn.{redrawn_length, redrawn_rows, redrawn_part, redrawn_keeps, redrawn_place, redrawn_over}

-- a table of the redrawn rows is the redrawn table
is_redrawn : (p t s : Bytes) → length s ≡ rows t * 32 → ((i : ℕ) → i < rows t → part 32 s i ≡ redrawn_row p t i) → s ≡ update_wire_shapes p t
unfolding update_wire_shapes
is_redrawn p t s = is_concat_rows 32 (redrawn_row p t) (rows t) s

-- ---- twice

module _ (p t : Bytes) where
  row_again : (i : ℕ) → i < rows t → redrawn_row p (update_wire_shapes p t) i ≡ redrawn_row p t i
  unfolding redrawn_row
  row_again i l =
      let row : part 32 (update_wire_shapes p t) i ≡ cond (is_dust (kind_of t i)) (drawn (part 32 t i) (drawn_arms p t i)) (part 32 t i) = redrawn_part p t i l in
      rw (redrawn_keeps p t i 12 l (omega arith, refl), row, same_drawn (redrawn_over p t) p i (redrawn_place p t i l))
      (go (is_dust (kind_of t i)))
    where
      go : (b : Bool) → let own = cond b (drawn (part 32 t i) (drawn_arms p t i)) (part 32 t i) in cond b (drawn own (drawn_arms p t i)) own ≡ own
      go true = drawn_same _ _ (drawn-arms (part 32 t i) (drawn_arms p t i) (length_part 32 t i (omega arith)))
      go false = refl

  -- "redrawing an accepted table twice gives the bytes of redrawing once"
  pub redrawn_twice : update_wire_shapes p (update_wire_shapes p t) ≡ update_wire_shapes p t
  redrawn_twice =
      let u = update_wire_shapes p t in
      let n : rows u ≡ rows t = redrawn_rows p t in
      sym
      (is_redrawn p u u (redrawn_length p t ∙ ap (λ k. k * 32) (sym n))
      (λ i l. let inside : i < rows t = rw n at l in redrawn_part p t i inside ∙ sym (row_again i inside)))

-- ---- a byte of a row that inference does not read, and that is none of 23 to 27

module _ (p t : Bytes) (j b v : ℕ) (inside : b < 32) (unread : ¬ (Read b)) (apart : is_arm_byte b ≡ false) where
  abbrev changed : Bytes → Bytes
  changed s = set s (j * 32 + b) v

  changed_alike : Alike (changed t) t
  changed_alike =
      record { long = length-set t (j * 32 + b) v; agree = λ i k r. get_or-set_other t (j * 32 + b) (i * 32 + k) v 0 (λ e. unread (rw (same i k r e) r)) }
    where
      same : (i k : ℕ) → Read k → i * 32 + k ≡ j * 32 + b → b ≡ k
      same i k (inl l) e = omega arith
      same i k (inr l) e = omega arith

  arms : (i : ℕ) → drawn_arms p (changed t) i ≡ drawn_arms p t i
  arms i = same_drawn (everywhere changed_alike) p i (same_place changed_alike i)

  own_row : j < rows t → part 32 (changed (update_wire_shapes p t)) j ≡ redrawn_row p (changed t) j
  unfolding redrawn_row
  own_row l =
      part_set_own 32 (update_wire_shapes p t) j b v inside
      ∙ ap (λ r. set r b v) (redrawn_part p t j l)
      ∙ rw (same_kind changed_alike j, arms j, part_set_own 32 t j b v inside) (go (is_dust (kind_of t j)))
    where
      go : (d : Bool) → set (cond d (drawn (part 32 t j) (drawn_arms p t j)) (part 32 t j)) b v ≡ cond d (drawn (set (part 32 t j) b v) (drawn_arms p t j)) (set (part 32 t j) b v)
      go true = sym (drawn_set b apart (part 32 t j) (drawn_arms p t j) v)
      go false = refl

  other_row : (i : ℕ) → i < rows t → ¬ (i ≡ j) → part 32 (changed (update_wire_shapes p t)) i ≡ redrawn_row p (changed t) i
  unfolding redrawn_row
  other_row i l n =
      part_set_other 32 (update_wire_shapes p t) j b v inside i n
      ∙ redrawn_part p t i l
      ∙ rw (same_kind changed_alike i, arms i, part_set_other 32 t j b v inside i n) refl

  -- written before the redraw or after it, it gives the same table
  pub redrawn_set : update_wire_shapes p (set t (j * 32 + b) v) ≡ set (update_wire_shapes p t) (j * 32 + b) v
  redrawn_set =
      let n : rows (changed t) ≡ rows t = same_rows changed_alike in
      sym
      (is_redrawn p (changed t) (changed (update_wire_shapes p t))
      (length-set (update_wire_shapes p t) (j * 32 + b) v ∙ redrawn_length p t ∙ ap (λ k. k * 32) (sym n))
      (λ i l. by_cases (ℕ_discrete i j) (λ e. rw e (own_row (rw (n, e) at l))) (other_row i (rw n at l))))

-- ---- around a switch

module _ (p t : Bytes) (q : Pos) where
  -- the look-up finds the same
  redrawn_find : find (update_wire_shapes p t) q ≡ find t q
  redrawn_find = same_find (update_wire_shapes p t) t (redrawn_rows p t) (λ i l. redrawn_place p t i (rw (redrawn_rows p t) at l)) q

  module _ (power : ℕ) where
    -- "Switching a position to a given power and then redrawing gives the same table as redrawing and then switching"
    pub either_order : update_wire_shapes p (switched t q power) ≡ switched (update_wire_shapes p t) q power
    unfolding switched
    either_order = rw redrawn_find (go (find t q))
      where
        byte : ℕ
        byte = cond (eqb power 0) 1 2

        go : (f : Found) → update_wire_shapes p (on_found (λ i. set t (i * 32 + 14) byte) t f) ≡ on_found (λ i. set (update_wire_shapes p t) (i * 32 + 14) byte) (update_wire_shapes p t) f
        go (At j) = redrawn_set p t j 14 byte (omega arith) (⊎_elim (λ l. omega arith) (λ e. omega arith)) refl
        go Nothing = refl

    -- "whether the position is occupied": it is the redrawn table but for byte 14 of the row there
    pub at_occupied : (i : ℕ) → find t q ≡ At i → update_wire_shapes p (switched t q power) ≡ set (update_wire_shapes p t) (i * 32 + 14) (cond (eqb power 0) 1 2)
    unfolding switched
    at_occupied i e = either_order ∙ rw (redrawn_find, e) refl

    -- "or empty": it is the redrawn table
    pub at_empty : find t q ≡ Nothing → update_wire_shapes p (switched t q power) ≡ update_wire_shapes p t
    unfolding switched
    at_empty e = either_order ∙ rw (redrawn_find, e) refl

    -- a redrawn table is still drawn after a switch
    pub still_drawn : update_wire_shapes p (switched (update_wire_shapes p t) q power) ≡ switched (update_wire_shapes p t) q power
    still_drawn = ap (update_wire_shapes p) (sym either_order) ∙ redrawn_twice p (switched t q power) ∙ either_order

-- ---- "The editor redraws dust arms at moments of its own"

-- whatever comes after a redraw: the table is that of the switches alone, redrawn
after_redraw : (p : Bytes) (edits : List Edit) (t : Bytes) → edited p edits (update_wire_shapes p t) ≡ update_wire_shapes p (edited p (switches_of edits) t)
unfolding edited switches_of
after_redraw p [] t = refl
after_redraw p (Redraw ∷ rest) t = ap (edited p rest) (redrawn_twice p t) ∙ after_redraw p rest t
after_redraw p (Switch q power ∷ rest) t = ap (edited p rest) (sym (either_order p t q power)) ∙ after_redraw p rest (switched t q power)

-- and so wherever redraws stand among switches, one at least: as if there were one, at the end
pub redraws_anywhere : (p : Bytes) (edits : List Edit) (t : Bytes) → has_redraw edits ≡ true → edited p edits t ≡ update_wire_shapes p (edited p (switches_of edits) t)
unfolding edited switches_of has_redraw
redraws_anywhere p [] t h = absurd (false≢true h)
redraws_anywhere p (Redraw ∷ rest) t h = after_redraw p rest t
redraws_anywhere p (Switch q power ∷ rest) t h = redraws_anywhere p rest (switched t q power) h
