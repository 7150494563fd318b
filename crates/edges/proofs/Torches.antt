-- Document 02, Change 3: the network of a table with value 32 of the torch's byte, and without it. Assumes nothing.
use mathlib.Core.Path.{◌≡◌, refl, ◌∙◌}
use mathlib.Core.Bool.{Bool, true, false, ◌&&◌, ◌||◌, or-false}
use Prim.Native.Nat.{ℕ}
use Rattle.columns.specs.Column.{Bytes}
use Rattle.blocks.specs.Profile.{torch_charges_above}
use Rattle.blocks.proofs.Values.{without_value, value_gone, same_properties}
use Rattle.network.specs.Network.{Network}
use Rattle.world.specs.Rows.{kind_of}
use Rattle.traits.specs.Traits.{traits}
use Rattle.traits.proofs.Profiles.{same_traits}
use Rattle.edges.specs.Edges.{is_support_of, outputs_to, is_next_to_redstone_block, is_over_torch, emitted_to_strong, network_by, network_of}
use Rattle.edges.proofs.Profiles.{with_strong, same_but_strong}

-- "Strong power: lever, button, plate reach their support, repeater and comparator their output, redstone block its six neighbours, where the
-- target receives strong": document 01's sentence alone
abbrev pub strong01 : Bytes → Bytes → ℕ → ℕ → Bool
strong01 p t j i = (traits p t i).strong && (is_support_of t j i || (outputs_to t j i || is_next_to_redstone_block t j i))

-- the table's network, with document 01's edges of strong power
abbrev pub network01 : Bytes → Bytes → Network
network01 p t = with_strong (network_of p t) (strong01 p t)

-- the edges that the value adds
abbrev pub over_torch : Bytes → Bytes → ℕ → ℕ → Bool
over_torch p t j i = (traits p t i).strong && is_over_torch t j i

apart : (s a b c d : Bool) → (s && (a || (b || (c || d)))) ≡ ((s && (a || (b || c))) || (s && d))
apart false a b c d = refl
apart true true b c d = refl
apart true false true c d = refl
apart true false false c d = refl

-- "Without it the answer is the Rust's": strong power has document 01's edges and no others,
pub network_without_value : (p t : Bytes) → torch_charges_above p ≡ false → network_of p t ≡ network01 p t
unfolding network_of network_by emitted_to_strong
network_without_value p t clear = λ x. with_strong (network_of p t) (λ j i. edge j i x)
  where
    edge : (j i : ℕ) → emitted_to_strong p t j i ≡ strong01 p t j i
    edge j i = rw (clear, or-false) refl

-- and with it there are the edges from torches besides.
pub network_with_value : (p t : Bytes) → torch_charges_above p ≡ true
    → network_of p t ≡ with_strong (network01 p t) (λ j i. strong01 p t j i || over_torch p t j i)
unfolding network_of network_by emitted_to_strong
network_with_value p t value = λ x. with_strong (network_of p t) (λ j i. edge j i x)
  where
    edge : (j i : ℕ) → emitted_to_strong p t j i ≡ (strong01 p t j i || over_torch p t j i)
    edge j i = rw value (apart (traits p t i).strong (is_support_of t j i) (outputs_to t j i) (is_next_to_redstone_block t j i) (is_over_torch t j i))

-- ---- "Profile value 32 is added for the torch only": what else reads the profile answers as without the value

module _ (p t : Bytes) where
  pub traits_without_value : (i : ℕ) → traits (without_value p) t i ≡ traits p t i
  traits_without_value i = same_traits (without_value p) p t i (same_properties p (kind_of t i))

  strong_01 : (j i : ℕ) → strong01 (without_value p) t j i ≡ strong01 p t j i
  strong_01 j i = rw (traits_without_value i) refl

  -- so that every edge but those of strong power is the same by the two profiles
  pub network_of_rest : network_of (without_value p) t ≡ network01 p t
  network_of_rest =
      network_without_value (without_value p) t (value_gone p)
      ∙ (λ x. with_strong (same_but_strong (without_value p) p t traits_without_value (strong01 p t) x) (λ j i. strong_01 j i x))
