-- Laws: a transfer reads the kind, the position and, of dust, the arms of its two rows, the traits of what stands beside the source and
-- below it, and nothing else.
-- Assumes nothing.
use Rattle.std.proofs.Common.{None}
use mathlib.Core.Path.{◌≡◌, refl, ap}
use mathlib.Core.Bool.{Bool, true, false, cond, ◌&&◌}
use Prim.Native.Nat.{ℕ}
use Rattle.blocks.specs.Kind.{is_dust}
use Rattle.columns.specs.Column.{Bytes}
use Rattle.places.specs.declared.Pos.{Pos}
use Rattle.places.specs.Places.{North, East, South, West, horizontals, is_horizontal, opposite, beside, below}
use Rattle.world.specs.Rows.{pos_of, kind_of}
use Rattle.traits.specs.Traits.{traits_at}
use Rattle.wire.specs.Transfer.{fits_horizontal, fits_rise, fits_fall, rule_along, first_rule, transfer_by, is_transfer, transmits_by}

-- row i of t with the arms a, and of u with the arms b
pub record SameRow (a b : ℕ → ℕ → ℕ) (t u : Bytes) (i : ℕ) : Type 0 where
  pub kind : kind_of t i ≡ kind_of u i
  pub place : pos_of t i ≡ pos_of u i
  pub arms : is_dust (kind_of u i) ≡ true → (f : ℕ) → is_horizontal f ≡ true → a i f ≡ b i f

-- the traits that a transfer from q asks for
pub record SameTraits (p t u : Bytes) (q : Pos) : Type 0 where
  pub side : (f : ℕ) → is_horizontal f ≡ true → traits_at p t (beside q f) ≡ traits_at p u (beside q f)
  pub under : traits_at p t (below q) ≡ traits_at p u (below q)

module _ {a b : ℕ → ℕ → ℕ} {t u : Bytes} {j i : ℕ} (source : SameRow a b t u j) (sink : SameRow a b t u i)
    (p : Bytes) (around : SameTraits p t u (pos_of u j)) where
  module _ (dj : is_dust (kind_of u j) ≡ true) (di : is_dust (kind_of u i) ≡ true) where
    same_along : (f : ℕ) → is_horizontal f ≡ true → is_horizontal (opposite f) ≡ true → rule_along a p t j i f ≡ rule_along b p u j i f
    unfolding rule_along fits_horizontal fits_rise fits_fall
    same_along f h g =
        rw (source.place, sink.place, source.arms dj f h, sink.arms di (opposite f) g, around.side f h, around.under)

    same_first : first_rule (rule_along a p t j i) horizontals ≡ first_rule (rule_along b p u j i) horizontals
    unfolding first_rule opposite
    same_first = rw (same_along North refl refl, same_along East refl refl, same_along South refl refl, same_along West refl refl)

  pub same_transfer : transfer_by a p t j i ≡ transfer_by b p u j i
  unfolding transfer_by
  same_transfer = rw (source.kind, sink.kind) (go (is_dust (kind_of u j)) refl (is_dust (kind_of u i)) refl)
    where
      go : (c : Bool) → is_dust (kind_of u j) ≡ c → (d : Bool) → is_dust (kind_of u i) ≡ d
          → cond (c && d) (first_rule (rule_along a p t j i) horizontals) None ≡ cond (c && d) (first_rule (rule_along b p u j i) horizontals) None
      go true x true y = same_first x y
      go true x false y = refl
      go false x d y = refl

  pub same_transmits : transmits_by a p t j i ≡ transmits_by b p u j i
  unfolding transmits_by
  same_transmits = ap is_transfer same_transfer
