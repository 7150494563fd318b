-- Laws of the list beside a table in which a row was replaced: where it was the old table's, the updated list is the new one's; and every entry of it,
-- whatever it was.
-- Assumes nothing.
use mathlib.Core.Path.{◌≡◌, refl, ap, sym, ◌∙◌}
use mathlib.Core.Logic.{by_cases}
use mathlib.Core.Bool.{Bool, true, false, cond, ◌&&◌, true≢false}
use Prim.Native.Nat.{ℕ, ◌+◌, ◌*◌, ◌≤◌, ◌<◌}
use native.Mathlib.Decide.{ℕ_discrete}
use native.Mathlib.Omega.{arith}
use lib.Dec.{eqb}
use lib.IntN.{ℤ, pos, ◌+ℤ◌}
use lib.ListN.{length}
use lib.Signed.{mag}
use borrow.Author.Tests.{eq-eqb, eqb-false}
use Rattle.columns.specs.Column.{Bytes, Column, row, part, concat_rows}
use Rattle.columns.proofs.Truth.{or_false}
use Rattle.columns.proofs.Parts.{length_part, part_at, length_concat_rows, concat_rows_same, concat_rows_at}
use Rattle.blocks.specs.Kind.{is_dust}
use Rattle.places.specs.declared.Pos.{Pos}
use Rattle.places.specs.Places.{above, below, beside}
use Rattle.places.proofs.Steps.{InRange, mag_sum}
use Rattle.places.proofs.Near.{shifted_sum, shifted_le, Within, Near, near_sum, near_itself, above_near, below_near, beside_near, above_beside_near, below_beside_near, around_near}
use Rattle.world.specs.Rows.{rows, pos_of, kind_of}
use Rattle.refusals.specs.Accepted.{Table}
use Rattle.refusals.proofs.Accepted.{in-range}
use Rattle.arms.specs.Arms.{arm_of}
use Rattle.wire.specs.Transfer.{transmits}
use Rattle.wire.proofs.Around.{transmits_around}
use Rattle.wire.proofs.Same.{SameRow}
use Rattle.wire.proofs.Alike.{same_stored}
use Rattle.wire.proofs.Region.{AlikeOver, Holds, rows_alike, row_over, transmits_over}
use Rattle.adjacency.specs.Adjacency.{near_of}
use Rattle.prepare.specs.Classes.{classes_of}
use Rattle.feeding.specs.Feeders.{feeder_entries, feeder_list}
use Rattle.feeding.specs.Replaced.{replaced, at_most_two_apart, is_near, is_renewed, updated_entries, updated_list}
use Rattle.feeding.specs.Around.{updated_in}
use Rattle.feeding.proofs.Listed.{not_dust, entries_found, entries_twelve, list_part, entries_same}
use Rattle.feeding.proofs.Replacing.{Replaceable, replaced_rows, other_byte, replaced_place}

-- ---- at most two cells away

axis_near : (a b : ℤ) → mag a ≤ 1000000 → mag b ≤ 1000000 → Within 2 a b → at_most_two_apart a b ≡ true
axis_near a b g h w =
    let low = shifted_le a (b +ℤ pos 2) (omega arith) (omega (arith, mag_sum b (pos 2))) (omega (arith, w.up, shifted_sum b (pos 2) h (omega arith))) in
    let high = shifted_le b (a +ℤ pos 2) (omega arith) (omega (arith, mag_sum a (pos 2))) (omega (arith, w.down, shifted_sum a (pos 2) g (omega arith))) in
    rw (low, high)

cells_near : (p q : Pos) → InRange p → InRange q → Near 2 p q → is_near p q ≡ true
unfolding is_near
cells_near p q g h a =
    rw (axis_near p.x q.x g.x h.x a.x, axis_near p.y q.y g.y h.y a.y, axis_near p.z q.z g.z h.z a.z)

module _ (p : Bytes) {t : Bytes} (a : Table t) {n : ℕ} {new : Bytes} (r : Replaceable t n new) where
  -- the table after it
  abbrev after : Bytes
  after = replaced t n new

  -- the positions but that of the row
  abbrev Elsewhere : Pos → Type 0
  Elsewhere q = ¬ (q ≡ pos_of t n)

  -- have the same blocks as before
  alike : AlikeOver Elsewhere after t
  alike =
      rows_alike after t (replaced_rows r) (λ i l. replaced_place r i (rw (replaced_rows r) at l))
      (λ i l away.
      let inner : i < rows t = rw (replaced_rows r) at l in
      let other : ¬ (i ≡ n) = λ e. away (replaced_place r i inner ∙ ap (pos_of t) e) in
      record {
        kind = other_byte r i inner other 12 (omega arith);
        facing = other_byte r i inner other 13 (omega arith);
        shape = other_byte r i inner other 28 (omega arith);
      })

  -- ---- a row that is not near has the entries that it had

  module _ (i : ℕ) (l : i < rows t) (far : is_near (pos_of t n) (pos_of t i) ≡ false) where
    away : (c : Pos) → Near 2 c (pos_of t i) → Elsewhere c
    away c x e = true≢false (sym (cells_near (pos_of t n) (pos_of t i) (in-range t a n r.inside) (in-range t a i l) (rw e at x)) ∙ far)

    -- nor has what is next to it the replaced row next to it
    module _ (j : ℕ) (m : j < rows t) (near : Near 1 (pos_of t j) (pos_of t i)) where
      holds : Holds Elsewhere (pos_of t j)
      holds =
          let q = pos_of t j in
          let range = in-range t a j m in
          record {
            over = away (above q) (near_sum (above_near q range) near);
            under = away (below q) (near_sum (below_near q range) near);
            side = λ f _. away (beside q f) (near_sum (beside_near q range f) near);
            side_over = λ f _. away (above (beside q f)) (near_sum (above_beside_near q range f) near);
            side_under = λ f _. away (below (beside q f)) (near_sum (below_beside_near q range f) near);
          }

      other : ¬ (j ≡ n)
      other e = away (pos_of t j) (near_sum (near_itself 1 (pos_of t j)) near) (ap (pos_of t) e)

      same_row : SameRow (arm_of p after) (arm_of p t) after t j
      same_row = row_over alike p j (other_byte r j m other 12 (omega arith)) (replaced_place r j m) (same_stored after t j (λ b _ l. other_byte r j m other b (omega arith))) holds

    same_transmits : (j : ℕ) → j < rows t → transmits p after j i ≡ transmits p t j i
    same_transmits j m = go (transmits p after j i) refl (transmits p t j i) refl
      where
        next-to : Near 1 (pos_of t j) (pos_of t i) → transmits p after j i ≡ transmits p t j i
        next-to near = transmits_over alike p (same_row j m near) (same_row i l (near_itself 1 (pos_of t i))) (holds j m near)

        stood : InRange (pos_of after j)
        stood = rw (replaced_place r j m) (in-range t a j m)

        go : (b : Bool) → transmits p after j i ≡ b → (c : Bool) → transmits p t j i ≡ c → transmits p after j i ≡ transmits p t j i
        go b e true f = next-to (around_near (pos_of t i) (in-range t a i l) (pos_of t j) (transmits_around (arm_of p t) p t j i (in-range t a j m) f))
        go true e false f =
            next-to (around_near (pos_of t i) (in-range t a i l) (pos_of t j)
            (rw (replaced_place r j m, replaced_place r i l) at (transmits_around (arm_of p after) p after j i stood e)))
        go false e false f = e ∙ sym f

    same_entries : feeder_entries p after i ≡ feeder_entries p t i
    same_entries = entries_same p p after t (replaced_rows r) i (λ j m. same_transmits j (rw (replaced_rows r) at m))

  -- neither the row itself, nor dust at most two cells away
  kept_entries : (i : ℕ) → i < rows t → is_renewed after n i ≡ false → feeder_entries p after i ≡ feeder_entries p t i
  unfolding is_renewed
  kept_entries i l h = go (is_dust (kind_of after i)) refl (or_false (eqb i n) _ h)
    where
      go : (b : Bool) → is_dust (kind_of after i) ≡ b → (eqb i n ≡ false) × ((is_dust (kind_of after i) && is_near (pos_of after n) (pos_of after i)) ≡ false)
          → feeder_entries p after i ≡ feeder_entries p t i
      go true d (_, away) = same_entries i l (rw (d, replaced_place r n r.inside, replaced_place r i l) at away)
      go false d (other, _) =
          not_dust p after i d
          ∙ sym (not_dust p t i (rw (other_byte r i l (eqb-false i n other) 12 (omega arith)) at d))

  -- whether a row's entries are written afresh can be asked of the old table as well as of the new one
  pub renewed_either : (i : ℕ) → i < rows t → is_renewed after n i ≡ is_renewed t n i
  unfolding is_renewed
  renewed_either i l =
      by_cases (ℕ_discrete i n) (λ e. rw (eq-eqb i n e))
      (λ h. rw (replaced_place r n r.inside, replaced_place r i l, other_byte r i l h 12 (omega arith)))

  -- "If the list handed in was the old table's under this profile, the result must equal a list built afresh"
  pub updated_afresh : updated_list p after n (feeder_list p t) ≡ feeder_list p after
  unfolding updated_list updated_entries feeder_list
  updated_afresh =
      concat_rows_same (updated_entries p after n (feeder_list p t)) (feeder_entries p after) (rows after)
      (λ i l. go i (rw (replaced_rows r) at l) (is_renewed after n i) refl)
    where
      go : (i : ℕ) → i < rows t → (b : Bool) → is_renewed after n i ≡ b → cond b (feeder_entries p after i) (part 12 (feeder_list p t) i) ≡ feeder_entries p after i
      go i l true e = refl
      go i l false e = list_part p t a i l ∙ sym (kept_entries i l e)

-- ---- every entry, whatever list was handed in: t is the table after it

module _ (p t : Bytes) (a : Table t) (n : ℕ) (list : Column) (long : length list ≡ rows t * 12) where
  updated_twelve : (i : ℕ) → i < rows t → length (updated_entries p t n list i) ≡ 12
  unfolding updated_entries
  updated_twelve i l = go (is_renewed t n i)
    where
      go : (b : Bool) → length (cond b (feeder_entries p t i) (part 12 list i)) ≡ 12
      go true = entries_twelve p t a i l
      go false = length_part 12 list i (omega arith)

  pub updated_long : length (updated_list p t n list) ≡ rows t * 12
  unfolding updated_list
  updated_long = length_concat_rows 12 (updated_entries p t n list) (rows t) updated_twelve

  -- read off the columns
  pub updated_found : {near class : Column} → near ≡ near_of t → class ≡ classes_of p t
      → concat_rows (rows t) (updated_in t near class n list) ≡ updated_list p t n list
  unfolding updated_in updated_list updated_entries
  updated_found e g =
      rw (e, g)
      (concat_rows_same (updated_in t (near_of t) (classes_of p t) n list) (updated_entries p t n list) (rows t)
      (λ i l. ap (λ x. cond (is_renewed t n i) x (part 12 list i)) (entries_found p t a i l)))

  -- "that row's entries and those of dust at most two cells away on every axis are written afresh, all others are left as handed in"
  pub updated_at : (i k : ℕ) → i < rows t → k < 12
      → row (updated_list p t n list) (i * 12 + k) ≡ cond (is_renewed t n i) (row (feeder_entries p t i) k) (row list (i * 12 + k))
  unfolding updated_list updated_entries
  updated_at i k l m = concat_rows_at 12 (updated_entries p t n list) (rows t) updated_twelve i k l m ∙ go (is_renewed t n i)
    where
      go : (b : Bool) → row (cond b (feeder_entries p t i) (part 12 list i)) k ≡ cond b (row (feeder_entries p t i) k) (row list (i * 12 + k))
      go true = refl
      go false = part_at 12 list i k m
