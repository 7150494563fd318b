-- One turn of each of the two loops that look for the first rule: what is left from a facing, and from a height step of a facing.
-- Assumes nothing.
use Rattle.std.proofs.Common.{Option, Some, None}
use mathlib.Core.Path.{◌≡◌, refl}
use mathlib.Core.Bool.{Bool, true, false, cond, ◌&&◌}
use mathlib.Core.List.{◌∷◌}
use Prim.Native.Nat.{ℕ, zero, suc, ◌+◌, ◌-◌, ◌≤◌, ◌<◌}
use native.Mathlib.Omega.{arith}
use lib.ListN.{drop}
use Rattle.blocks.specs.Kind.{is_dust}
use Rattle.columns.specs.Column.{Bytes}
use Rattle.places.specs.Places.{horizontals}
use Rattle.world.specs.Rows.{kind_of}
use Rattle.wire.specs.declared.transfer.DustTransfer.{DustTransfer}
use Rattle.wire.specs.declared.transfer.DustTransfer.TheVariants.{Horizontal, Rise, FallThroughConductor}
use Rattle.wire.specs.Transfer.{fits_horizontal, fits_rise, fits_fall, fits, rule_along, rule_of, or_rule, first_rule, transfer_by}

-- the facings come in the order of their numbers
next_facing : (f : ℕ) → 1 ≤ f → f ≤ 4 → drop (f - 1) horizontals ≡ f ∷ drop (f + 1 - 1) horizontals
next_facing zero g h = absurd (omega arith)
next_facing (suc zero) g h = refl
next_facing (suc (suc zero)) g h = refl
next_facing (suc (suc (suc zero))) g h = refl
next_facing (suc (suc (suc (suc zero)))) g h = refl
next_facing (suc (suc (suc (suc (suc f))))) g h = absurd (omega arith)

module _ (arm : ℕ → ℕ → ℕ) (p t : Bytes) (j i : ℕ) where
  -- the first rule from the facing f on
  abbrev pub from_facing : ℕ → Option DustTransfer
  from_facing f = first_rule (rule_along arm p t j i) (drop (f - 1) horizontals)

  -- between dusts it is the whole answer from the first facing on
  pub from_first : (is_dust (kind_of t j) && is_dust (kind_of t i)) ≡ true → transfer_by arm p t j i ≡ from_facing 1
  unfolding transfer_by
  from_first e = rw e

  module _ (f : ℕ) where
    -- the first of the n rules from the height step k on, along f, or what comes next
    unfoldable pub from_step : ℕ → ℕ → Option DustTransfer → Option DustTransfer
    from_step zero k next = next
    from_step (suc n) k next = let later = from_step n (k + 1) next in cond (fits arm p t j i f k) (Some (rule_of k)) later

    along : (next : Option DustTransfer) → or_rule (rule_along arm p t j i f) next ≡ from_step 3 0 next
    unfolding rule_along fits from_step
    along next = go (fits_horizontal arm t j i f) (fits_rise arm p t j i f) (fits_fall arm p t j i f)
      where
        go : (a b c : Bool) → or_rule (cond a (Some Horizontal) (cond b (Some Rise) (cond c (Some FallThroughConductor) None))) next ≡ cond a (Some Horizontal) (cond b (Some Rise) (cond c (Some FallThroughConductor) next))
        go true b c = refl
        go false true c = refl
        go false false true = refl
        go false false false = refl

    pub enter : 1 ≤ f → f ≤ 4 → from_facing f ≡ from_step 3 0 (from_facing (f + 1))
    unfolding first_rule
    enter g h = rw (next_facing f g h) (along (from_facing (f + 1)))

    -- where r says whether the rule of the height step k fits
    module _ (k : ℕ) (next : Option DustTransfer) (h : k < 3) {r : Bool} (is : r ≡ fits arm p t j i f k) where
      left : 3 - k ≡ suc (3 - (k + 1))
      left = omega arith

      pub hit : r ≡ true → from_step (3 - k) k next ≡ Some (rule_of k)
      unfolding from_step
      hit e = rw (left, ← is, e)

      pub miss : r ≡ false → from_step (3 - k) k next ≡ from_step (3 - (k + 1)) (k + 1) next
      unfolding from_step
      miss e = rw (left, ← is, e)

    pub out : (k : ℕ) (next : Option DustTransfer) → 3 ≤ k → from_step (3 - k) k next ≡ next
    unfolding from_step
    out k next h = let e : 3 - k ≡ 0 = omega arith in rw e

    pub done : f ≡ 5 → from_facing f ≡ None
    unfolding first_rule
    done e = rw e
