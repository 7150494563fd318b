-- Laws: dust transmits only between dusts, and only from one of the twelve positions around the sink, whatever its arms; and the heights tell the rule.
-- Assumes nothing.
use Rattle.std.proofs.Common.{Option, Some, None}
use mathlib.Core.Path.{◌≡◌, refl, ap, sym, ◌∙◌}
use mathlib.Core.Bool.{Bool, true, false, cond, ◌&&◌, false≢true}
use mathlib.Core.List.Memᴰ
use mathlib.Core.List.{List, [], ◌∷◌, Memᴰ}
use Prim.Native.Nat.{ℕ}
use native.Mathlib.Omega.{arith}
use lib.IntN.{ℤ, neg_ℤ, ◌+ℤ◌}
use Rattle.blocks.specs.Kind.{is_dust}
use Rattle.columns.specs.Column.{Bytes}
use Rattle.columns.proofs.Truth.{and_true}
use Rattle.places.specs.Signed.{zero_z, one, minus_one}
use Rattle.places.specs.Places.{horizontals, opposite, beside, above, below, same_pos}
use Rattle.places.proofs.Order.{same_pos_true}
use Rattle.places.proofs.Steps.{InRange, sat_add_exact, step_small, step_back, sideways, opposite_horizontal, sideways_back, over_beside, around, Step, down, level, up, is_around}
use Rattle.world.specs.Rows.{pos_of, kind_of}
use Rattle.wire.specs.declared.transfer.DustTransfer.{DustTransfer}
use Rattle.wire.specs.declared.transfer.DustTransfer.TheVariants.{Horizontal, Rise, FallThroughConductor}
use Rattle.wire.specs.Transfer.{fits_horizontal, fits_rise, fits_fall, rule_along, or_rule, first_rule, transfer_by, is_transfer, transmits_by}

-- some facing of the list has a rule that fits, and it is the first
record Fits (rule : ℕ → Option DustTransfer) (fs : List ℕ) : Type 0 where
  along : ℕ
  inside : Memᴰ along fs
  fits : is_transfer (rule along) ≡ true
  is : first_rule rule fs ≡ rule along

first_fits : (rule : ℕ → Option DustTransfer) (fs : List ℕ) → is_transfer (first_rule rule fs) ≡ true → Fits rule fs
unfolding first_rule
first_fits rule [] h = absurd (false≢true h)
first_fits rule (f ∷ fs) h = go (rule f) refl h (first_fits rule fs)
  where
    here : {x : Option DustTransfer} → rule f ≡ x → is_transfer x ≡ true → first_rule rule (f ∷ fs) ≡ x → Fits rule (f ∷ fs)
    here q e first = record { along = f; inside = Memᴰ.head refl; fits = rw q e; is = first ∙ sym q }

    go : (x : Option DustTransfer) → rule f ≡ x → is_transfer (or_rule x (first_rule rule fs)) ≡ true → (is_transfer (first_rule rule fs) ≡ true → Fits rule fs) → Fits rule (f ∷ fs)
    go (Some r) q e later = here q refl (rw q refl)
    go None q e later =
        let s : Fits rule fs = later e in
        record { along = s.along; inside = Memᴰ.tail s.inside; fits = s.fits; is = rw q s.is }

module _ (arm : ℕ → ℕ → ℕ) (p t : Bytes) (j i : ℕ) (e : transmits_by arm p t j i ≡ true) where
  along_some : ((is_dust (kind_of t j) && is_dust (kind_of t i)) ≡ true) × Fits (rule_along arm p t j i) horizontals
  unfolding transmits_by transfer_by
  along_some = go (is_dust (kind_of t j) && is_dust (kind_of t i)) refl e
    where
      go : (b : Bool) → (is_dust (kind_of t j) && is_dust (kind_of t i)) ≡ b → is_transfer (cond b (first_rule (rule_along arm p t j i) horizontals) None) ≡ true
          → ((is_dust (kind_of t j) && is_dust (kind_of t i)) ≡ true) × Fits (rule_along arm p t j i) horizontals
      go true d g = (d, first_fits (rule_along arm p t j i) horizontals g)
      go false d g = absurd (false≢true g)

  -- only dust transmits, and only to dust
  pub transmits_dust : (is_dust (kind_of t j) ≡ true) × (is_dust (kind_of t i) ≡ true)
  transmits_dust = and_true (is_dust (kind_of t j)) (is_dust (kind_of t i)) along_some.0

-- how much higher the sink is than the source
abbrev pub height_of : Option DustTransfer → ℤ
height_of (Some Horizontal) = zero_z
height_of (Some Rise) = one
height_of (Some FallThroughConductor) = minus_one
height_of None = zero_z

height_step : (x : Option DustTransfer) → Step (height_of x)
height_step (Some Horizontal) = level
height_step (Some Rise) = up
height_step (Some FallThroughConductor) = down
height_step None = level

-- the sink of a rule that fits along f is beside the source, and that much higher
rule_sideways : (arm : ℕ → ℕ → ℕ) (p t : Bytes) (j i : ℕ) → InRange (pos_of t j) → (f : ℕ) → is_transfer (rule_along arm p t j i f) ≡ true
    → sideways (pos_of t j) f (height_of (rule_along arm p t j i f)) ≡ pos_of t i
unfolding rule_along fits_horizontal fits_rise fits_fall beside
rule_sideways arm p t j i r f = go (fits_horizontal arm t j i f) refl (fits_rise arm p t j i f) refl (fits_fall arm p t j i f) refl
  where
    go : (a : Bool) → fits_horizontal arm t j i f ≡ a → (b : Bool) → fits_rise arm p t j i f ≡ b → (c : Bool) → fits_fall arm p t j i f ≡ c
        → is_transfer (cond a (Some Horizontal) (cond b (Some Rise) (cond c (Some FallThroughConductor) None))) ≡ true
        → sideways (pos_of t j) f (height_of (cond a (Some Horizontal) (cond b (Some Rise) (cond c (Some FallThroughConductor) None)))) ≡ pos_of t i
    go true x b y c z h = same_pos_true _ _ (and_true (same_pos (beside (pos_of t j) f) (pos_of t i)) _ x).0
    go false x true y c z h =
        sym (over_beside (pos_of t j) r f up) ∙ same_pos_true _ _ (and_true (same_pos (above (beside (pos_of t j) f)) (pos_of t i)) _ y).0
    go false x false y true z h =
        sym (over_beside (pos_of t j) r f down) ∙ same_pos_true _ _ (and_true (same_pos (below (beside (pos_of t j) f)) (pos_of t i)) _ z).0
    go false x false y false z h = absurd (false≢true h)

-- a source in range, as every row of an accepted table is
module _ (arm : ℕ → ℕ → ℕ) (p t : Bytes) (j i : ℕ) (r : InRange (pos_of t j)) (e : transmits_by arm p t j i ≡ true) where
  -- the sink is beside it along one of the four facings, at the height that the rule has
  record Sideways : Type 0 where
    along : ℕ
    inside : Memᴰ along horizontals
    is : sideways (pos_of t j) along (height_of (transfer_by arm p t j i)) ≡ pos_of t i

  transmits_sideways : Sideways
  unfolding transfer_by
  transmits_sideways =
      let (dust, s) = along_some arm p t j i e in
      let rule : transfer_by arm p t j i ≡ rule_along arm p t j i s.along = rw dust s.is in
      record { along = s.along; inside = s.inside; is = rw rule (rule_sideways arm p t j i r s.along s.fits) }

  -- so that it stands around the sink
  pub transmits_around : Memᴰ (pos_of t j) (around (pos_of t i))
  transmits_around =
      let s = transmits_sideways in
      let step = height_step (transfer_by arm p t j i) in
      Memᴰ.cast
      (sym (sideways_back (pos_of t j) r s.along s.inside (height_of (transfer_by arm p t j i)) (step_small step)) ∙ ap (λ q. sideways q (opposite s.along) (neg_ℤ (height_of (transfer_by arm p t j i)))) s.is)
      (is_around (pos_of t i) (opposite s.along) horizontals (opposite_horizontal (pos_of t j) r s.along s.inside) (step_back step))

  -- and the rule is told by the heights: Horizontal on the same height, Rise one up, FallThroughConductor one down
  pub rule_height : (pos_of t i).y ≡ (pos_of t j).y +ℤ height_of (transfer_by arm p t j i)
  rule_height =
      ap (λ q. q.y) (sym transmits_sideways.is)
      ∙ sat_add_exact (pos_of t j).y _ (omega (arith, r.y)) (omega (arith, step_small (height_step (transfer_by arm p t j i))))
