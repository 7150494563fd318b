-- Document 02, Change 4: on tables without bulbs the bulb's byte makes no difference to the feeder list. Assumes nothing.
use mathlib.Core.Path.{◌≡◌, refl, ap}
use mathlib.Core.Bool.{false}
use Prim.Native.Nat.{ℕ}
use lib.ListN.{length}
use Rattle.columns.specs.Column.{Bytes}
use Rattle.blocks.proofs.Bulbs.{with_bulb}
use Rattle.traits.proofs.Profiles.{traits_with_bulb}
use Rattle.refusals.specs.Check.{IsAccepted}
use Rattle.refusals.proofs.Bulbs.{no_bulb}
use Rattle.wire.specs.Transfer.{transmits}
use Rattle.edges.specs.Edges.{network_by, network_of}
use Rattle.edges.proofs.Profiles.{same_but_strong}
use Rattle.feeding.specs.Feeders.{feeder_list}
use Rattle.feeding.proofs.Listed.{list_same}

-- of a table that 13 bytes accept, under these and a fourteenth
module _ (p t : Bytes) (long : length p ≡ 13) (h : IsAccepted p t) (b : ℕ) where
  same : (j i : ℕ) → transmits (with_bulb p b) t j i ≡ transmits p t j i
  unfolding network_by network_of
  same j i =
      ap (λ network. network.transmits j i) (same_but_strong (with_bulb p b) p t (traits_with_bulb p t long (no_bulb p t long h) b) (λ _ _. false))

  pub list_with_bulb : feeder_list (with_bulb p b) t ≡ feeder_list p t
  list_with_bulb = list_same (with_bulb p b) p t t refl same
