-- Laws of the network of a table with any arms: power reaches only rows of the map; and what it reads of the table, which is the length,
-- bytes 0 to 13 and 28, the supports, and the arms of dust along the four horizontal facings.
-- Assumes nothing.
use mathlib.Core.Path.{◌≡◌, refl}
use mathlib.Core.Logic.{by_cases}
use mathlib.Core.Bool.{Bool, true, false, ◌&&◌, false≢true}
use Prim.Native.Nat.{ℕ, ◌<◌}
use native.Mathlib.Decide.{dec_lt}
use native.Mathlib.Omega.{arith}
use lib.ListN.{get_or-eq_default}
use Rattle.columns.specs.Column.{Bytes}
use Rattle.columns.proofs.Truth.{or_false, and_false_left, and_false_right}
use Rattle.network.specs.Compare.{PowerOnMap}
use Rattle.blocks.specs.Kind.{is_dust}
use Rattle.places.specs.Places.{North, East, South, West, is_horizontal}
use Rattle.world.specs.Rows.{rows, pos_of, kind_of, support_of}
use Rattle.traits.specs.Traits.{traits, conducts}
use Rattle.refusals.specs.Accepted.{Table}
use Rattle.connectivity.specs.Ports.{output_of}
use Rattle.wire.specs.Transfer.{transmits_by}
use Rattle.wire.proofs.Same.{SameRow, same_transmits}
use Rattle.wire.proofs.Alike.{Alike, same_rows, same_kind, same_facing, same_place, same_traits, same_around}
use Rattle.edges.specs.Edges.{outputs_to, is_support_of, is_next_to_redstone_block, is_over_torch, feeds, emitted_to_strong, strong_to_weak, arm_to, along_arm, touches, dust_to_weak_by, emitted_to_dust_by, strong_to_dust_by, network_by}

pub power_on_map : (arm : ℕ → ℕ → ℕ) (p t : Bytes) → PowerOnMap (network_by arm p t)
unfolding network_by emitted_to_strong strong_to_weak dust_to_weak_by
power_on_map arm p t =
    record {
      emitted_to_strong = λ j i h. and_false_left _ _ (or_false (traits p t i).weak _ h).1;
      strong_to_weak = λ j i h. and_false_left _ _ (or_false (traits p t i).weak _ h).0;
      dust_to_weak = λ j i h. and_false_right (is_dust (kind_of t j)) _ (and_false_left _ _ (or_false (traits p t i).weak _ h).0);
    }

-- ---- tables and arms that have the same network

-- the arms a and b are the same at the dust of a table, along the horizontal facings
pub record SameArms (a b : ℕ → ℕ → ℕ) (t : Bytes) : Type 0 where
  pub at : (i : ℕ) → is_dust (kind_of t i) ≡ true → (f : ℕ) → is_horizontal f ≡ true → a i f ≡ b i f

pub and_same : (c : Bool) {x y : Bool} → (c ≡ true → x ≡ y) → (c && x) ≡ (c && y)
and_same true h = h refl
and_same false h = refl

module _ {a b : ℕ → ℕ → ℕ} {t u : Bytes} (s : Alike t u) (supports : (i : ℕ) → support_of t i ≡ support_of u i) (arms : SameArms a b u)
    (p : Bytes) where
  same_row : (i : ℕ) → SameRow a b t u i
  same_row i = record { kind = same_kind s i; place = same_place s i; arms = arms.at i }

  module _ (j i : ℕ) where
    same_outputs : outputs_to t j i ≡ outputs_to u j i
    unfolding outputs_to output_of
    same_outputs = rw (same_kind s j, same_place s j, same_place s i, same_facing s j)

    same_feeds : feeds t j i ≡ feeds u j i
    unfolding feeds
    same_feeds = rw (same_kind s j, same_outputs)

    same_strong : emitted_to_strong p t j i ≡ emitted_to_strong p u j i
    unfolding emitted_to_strong is_support_of is_next_to_redstone_block is_over_torch
    same_strong = rw (same_traits s p i, same_outputs, same_kind s j, supports j, same_place s j, same_place s i)

    same_strong_to_weak : strong_to_weak p t j i ≡ strong_to_weak p u j i
    unfolding strong_to_weak
    same_strong_to_weak = rw (same_traits s p i, same_place s j, same_place s i)

    same_along : is_dust (kind_of u j) ≡ true → along_arm a t j i ≡ along_arm b u j i
    unfolding along_arm arm_to
    same_along d =
        let same : (f : ℕ) → is_horizontal f ≡ true → a j f ≡ b j f = arms.at j d in
        rw (same_place s j, same_place s i, same North refl, same East refl, same South refl, same West refl)

    same_dust_to_weak : dust_to_weak_by a p t j i ≡ dust_to_weak_by b p u j i
    unfolding dust_to_weak_by
    same_dust_to_weak =
        rw (same_kind s j)
        (and_same (is_dust (kind_of u j)) (λ d. rw (same_traits s p i, same_place s j, same_place s i, same_along d)))

  module _ (j i : ℕ) where
    same_touches : is_dust (kind_of u i) ≡ true → touches a t j i ≡ touches b u j i
    unfolding touches
    same_touches d = rw (same_place s j, same_place s i, same_along i j d)

    same_emitted_to_dust : emitted_to_dust_by a p t j i ≡ emitted_to_dust_by b p u j i
    unfolding emitted_to_dust_by
    same_emitted_to_dust =
        rw (same_kind s i) (and_same (is_dust (kind_of u i)) (λ d. rw (same_feeds j i, same_touches d)))

    same_strong_to_dust : strong_to_dust_by a p t j i ≡ strong_to_dust_by b p u j i
    unfolding strong_to_dust_by
    same_strong_to_dust =
        rw (same_kind s i) (and_same (is_dust (kind_of u i)) (λ d. rw (same_feeds j i, same_traits s p j, same_touches d)))

    same_transmits_by : transmits_by a p t j i ≡ transmits_by b p u j i
    same_transmits_by = same_transmits (same_row j) (same_row i) p (same_around s p (pos_of u j))

  pub same_network : network_by a p t ≡ network_by b p u
  unfolding network_by
  same_network =
      λ x. record {
        size = same_rows s x;
        dust = λ i. is_dust (same_kind s i x);
        mapped = λ i. conducts (same_traits s p i x);
        emitted_to_strong = λ j i. same_strong j i x;
        strong_to_weak = λ j i. same_strong_to_weak j i x;
        dust_to_weak = λ j i. same_dust_to_weak j i x;
        transmits = λ j i. same_transmits_by j i x;
        emitted_to_dust = λ j i. same_emitted_to_dust j i x;
        strong_to_dust = λ j i. same_strong_to_dust j i x;
      }

-- ---- one table with two arms

pub same_arms_network : {a b : ℕ → ℕ → ℕ} (p t : Bytes) → SameArms a b t → network_by a p t ≡ network_by b p t
same_arms_network p t arms = same_network (record { long = refl; agree = λ i k r. refl }) (λ i. refl) arms p

module _ (t : Bytes) (table : Table t) where
  -- in an accepted table dust is a row of the table
  dust_inside : (i : ℕ) → is_dust (kind_of t i) ≡ true → i < rows t
  dust_inside i d =
      by_cases (dec_lt i (rows t)) (λ l. l)
      (λ n. let none : kind_of t i ≡ 0 = get_or-eq_default t 0 (omega (arith, table.whole)) in absurd (false≢true (rw none at d)))

  -- so it is enough that the arms are the same at the rows of the table
  pub same_at_rows : {a b : ℕ → ℕ → ℕ} → ((i : ℕ) → i < rows t → (f : ℕ) → is_horizontal f ≡ true → a i f ≡ b i f) → SameArms a b t
  same_at_rows same = record { at = λ i d. same i (dust_inside i d) }
