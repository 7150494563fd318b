-- What reaches what: the network of a table, under a profile. A source is row j, a target row i.
-- Assumes nothing.
use Rattle.std.specs.Prelude.{Bool, false, not, ◌&&◌, ◌||◌, List, [], ◌∷◌, ℕ, eqb}
use Rattle.columns.specs.Column.{Bytes}
use Rattle.network.specs.Network.{Network}
use Rattle.blocks.specs.Kind.{RedstoneTorch, RedstoneBlock, is_dust, is_switch, is_source, is_diode}
use Rattle.blocks.specs.Profile.{torch_charges_above}
use Rattle.places.specs.Places.{horizontals, beside, above, below, same_pos, adjacent, is_at}
use Rattle.world.specs.Rows.{rows, pos_of, kind_of, support_of}
use Rattle.traits.specs.Traits.{traits, is_arm, conducts}
use Rattle.connectivity.specs.Ports.{output_of}
use Rattle.arms.specs.Arms.{arm_of}
use Rattle.wire.specs.Transfer.{transmits_by}

-- some facing of the list passes the test
abbrev pub some_of : (ℕ → Bool) → List ℕ → Bool
some_of test [] = false
some_of test (f ∷ fs) = test f || some_of test fs

module _ (t : Bytes) (j i : ℕ) where
  -- row j is a repeater or comparator, and its output is row i
  unfoldable pub outputs_to : Bool
  outputs_to = is_diode (kind_of t j) && is_at (output_of t j) (pos_of t i)

  -- row i is the support of the lever, button or plate j
  unfoldable pub is_support_of : Bool
  is_support_of = is_switch (kind_of t j) && is_at (support_of t j) (pos_of t i)

  -- row i is one of the six neighbours of the redstone block j
  unfoldable pub is_next_to_redstone_block : Bool
  is_next_to_redstone_block = eqb (kind_of t j) RedstoneBlock && adjacent (pos_of t j) (pos_of t i)

  -- row i is the block above the torch j, of any shape, lit or not: what an unlit torch emits is 0
  unfoldable pub is_over_torch : Bool
  is_over_torch = eqb (kind_of t j) RedstoneTorch && same_pos (above (pos_of t j)) (pos_of t i)

  -- row i being dust, "the emitted level of lever, button, plate, torch, redstone block, or of a repeater or comparator whose output is
  -- this dust"
  unfoldable pub feeds : Bool
  feeds = is_source (kind_of t j) || outputs_to

module _ (p t : Bytes) (j i : ℕ) where
  -- "Strong power: lever, button, plate reach their support, repeater and comparator their output, redstone block its six
  -- neighbours, where the target receives strong"; and with profile value 32 "a lit torch of any shape gives strong power 15 to the
  -- block above where that block receives strong"
  unfoldable pub emitted_to_strong : Bool
  emitted_to_strong =
      (traits p t i).strong
      && (is_support_of t j i || (outputs_to t j i || (is_next_to_redstone_block t j i || (torch_charges_above p && is_over_torch t j i))))

  -- "a strongly powered block reaches its six neighbours .. where the target receives weak"
  unfoldable pub strong_to_weak : Bool
  strong_to_weak = (traits p t i).weak && adjacent (pos_of t j) (pos_of t i)

-- ---- along arms. The arm of row i along the facing f is `arm i f`: that of the table, which is `arm_of`, or any other.

module _ (arm : ℕ → ℕ → ℕ) (t : Bytes) (j i : ℕ) where
  -- row i is beside dust j along the facing f, and j has that arm
  unfoldable pub arm_to : ℕ → Bool
  arm_to f = same_pos (beside (pos_of t j) f) (pos_of t i) && is_arm (arm j f)

  -- "along its arms", of dust j
  unfoldable pub along_arm : Bool
  along_arm = some_of arm_to horizontals

-- "from above, below and along its arms", of dust i: row j is there
unfoldable pub touches : (ℕ → ℕ → ℕ) → Bytes → ℕ → ℕ → Bool
touches arm t j i =
    same_pos (above (pos_of t i)) (pos_of t j) || (same_pos (below (pos_of t i)) (pos_of t j) || along_arm arm t i j)

module _ (arm : ℕ → ℕ → ℕ) (p t : Bytes) (j i : ℕ) where
  -- "dust reaches the block below and along its arms, where the target receives weak"
  unfoldable pub dust_to_weak_by : Bool
  dust_to_weak_by =
      is_dust (kind_of t j) && ((traits p t i).weak && (same_pos (below (pos_of t j)) (pos_of t i) || along_arm arm t j i))

  -- what arrives at the dust i: the direct level is the emitted level
  unfoldable pub emitted_to_dust_by : Bool
  emitted_to_dust_by = is_dust (kind_of t i) && (feeds t j i && touches arm t j i)

  -- "otherwise strong power where the neighbour drives dust"
  unfoldable pub strong_to_dust_by : Bool
  strong_to_dust_by = is_dust (kind_of t i) && (not (feeds t j i) && ((traits p t j).drives && touches arm t j i))

-- "The map holds the rows that receive weak or strong"
unfoldable pub network_by : (ℕ → ℕ → ℕ) → Bytes → Bytes → Network
network_by arm p t =
    record {
      size = rows t;
      dust = λ i. is_dust (kind_of t i);
      mapped = λ i. conducts (traits p t i);
      emitted_to_strong = emitted_to_strong p t;
      strong_to_weak = strong_to_weak p t;
      dust_to_weak = dust_to_weak_by arm p t;
      transmits = transmits_by arm p t;
      emitted_to_dust = emitted_to_dust_by arm p t;
      strong_to_dust = strong_to_dust_by arm p t;
    }

-- ---- with the arms of the table

abbrev pub dust_to_weak : Bytes → Bytes → ℕ → ℕ → Bool
dust_to_weak p t = dust_to_weak_by (arm_of p t) p t

abbrev pub emitted_to_dust : Bytes → Bytes → ℕ → ℕ → Bool
emitted_to_dust p t = emitted_to_dust_by (arm_of p t) p t

abbrev pub strong_to_dust : Bytes → Bytes → ℕ → ℕ → Bool
strong_to_dust p t = strong_to_dust_by (arm_of p t) p t

unfoldable pub network_of : Bytes → Bytes → Network
unfolding network_by
network_of p t = network_by (arm_of p t) p t
