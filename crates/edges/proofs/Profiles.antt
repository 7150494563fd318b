-- What a table's network reads of a profile: the traits of the rows, and whether a torch charges the block above. Assumes nothing.
use mathlib.Core.Path.{◌≡◌, refl}
use mathlib.Core.Bool.{Bool}
use Prim.Native.Nat.{ℕ}
use Rattle.columns.specs.Column.{Bytes}
use Rattle.network.specs.Network.{Network}
use Rattle.blocks.specs.Kind.{is_dust}
use Rattle.blocks.specs.Profile.{torch_charges_above}
use Rattle.places.specs.declared.Pos.{Pos}
use Rattle.places.specs.Places.{North, East, South, West, beside, below}
use Rattle.world.specs.Rows.{rows, pos_of, kind_of}
use Rattle.traits.specs.Traits.{traits, traits_at, conducts}
use Rattle.traits.proofs.Profiles.{same_traits_at}
use Rattle.arms.specs.Arms.{arm_of}
use Rattle.arms.proofs.Profiles.{same_arms_by}
use Rattle.wire.specs.Transfer.{fits_rise, fits_fall, rule_along, first_rule, transfer_by, transmits_by}
use Rattle.edges.specs.Edges.{emitted_to_strong, strong_to_weak, dust_to_weak_by, emitted_to_dust_by, strong_to_dust_by, network_by, network_of}

-- the network N with these edges of strong power
abbrev pub with_strong : Network → (ℕ → ℕ → Bool) → Network
with_strong N strong =
    record {
      size = N.size;
      dust = N.dust;
      mapped = N.mapped;
      emitted_to_strong = strong;
      strong_to_weak = N.strong_to_weak;
      dust_to_weak = N.dust_to_weak;
      transmits = N.transmits;
      emitted_to_dust = N.emitted_to_dust;
      strong_to_dust = N.strong_to_dust;
    }

-- ---- two profiles by which every row has the same traits

module _ (q p t : Bytes) (same : (i : ℕ) → traits q t i ≡ traits p t i) where
  arms : arm_of q t ≡ arm_of p t
  arms = same_arms_by q p t same

  traits-at : (c : Pos) → traits_at q t c ≡ traits_at p t c
  traits-at = same_traits_at q p t same

  transmits-by : (arm : ℕ → ℕ → ℕ) (j i : ℕ) → transmits_by arm q t j i ≡ transmits_by arm p t j i
  unfolding transmits_by transfer_by first_rule rule_along fits_rise fits_fall
  transmits-by arm j i =
      let side : (f : ℕ) → traits_at q t (beside (pos_of t j) f) ≡ traits_at p t (beside (pos_of t j) f) = λ f. traits-at (beside (pos_of t j) f) in
      rw (side North, side East, side South, side West, traits-at (below (pos_of t j))) refl

  module _ (j i : ℕ) where
    strong-to-weak : strong_to_weak q t j i ≡ strong_to_weak p t j i
    unfolding strong_to_weak
    strong-to-weak = rw (same i) refl

    dust-to-weak : dust_to_weak_by (arm_of q t) q t j i ≡ dust_to_weak_by (arm_of p t) p t j i
    unfolding dust_to_weak_by
    dust-to-weak = rw (arms, same i) refl

    transmits : transmits_by (arm_of q t) q t j i ≡ transmits_by (arm_of p t) p t j i
    transmits = rw arms (transmits-by (arm_of p t) j i)

    emitted-to-dust : emitted_to_dust_by (arm_of q t) q t j i ≡ emitted_to_dust_by (arm_of p t) p t j i
    unfolding emitted_to_dust_by
    emitted-to-dust = rw arms refl

    strong-to-dust : strong_to_dust_by (arm_of q t) q t j i ≡ strong_to_dust_by (arm_of p t) p t j i
    unfolding strong_to_dust_by
    strong-to-dust = rw (arms, same j) refl

  -- the network is the same but for the edges of strong power,
  pub same_but_strong : (strong : ℕ → ℕ → Bool) → with_strong (network_of q t) strong ≡ with_strong (network_of p t) strong
  unfolding network_of network_by
  same_but_strong strong =
      λ x. record {
        size = rows t;
        dust = λ i. is_dust (kind_of t i);
        mapped = λ i. conducts (same i x);
        emitted_to_strong = strong;
        strong_to_weak = λ j i. strong-to-weak j i x;
        dust_to_weak = λ j i. dust-to-weak j i x;
        transmits = λ j i. transmits j i x;
        emitted_to_dust = λ j i. emitted-to-dust j i x;
        strong_to_dust = λ j i. strong-to-dust j i x;
      }

  -- and where torches charge alike, these are the same, too
  module _ (torch : torch_charges_above q ≡ torch_charges_above p) where
    to_strong : (j i : ℕ) → emitted_to_strong q t j i ≡ emitted_to_strong p t j i
    unfolding emitted_to_strong
    to_strong j i = rw (same i, torch) refl

    pub same_network_by : network_of q t ≡ network_of p t
    unfolding network_of network_by
    same_network_by = λ x. with_strong (same_but_strong (λ j i. to_strong j i x) x) (λ j i. to_strong j i x)
