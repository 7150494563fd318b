-- Document 02, Change 4, over tables: on tables without bulbs the bulb's byte makes no difference to what is settled.
-- Assumes nothing.
use mathlib.Core.Path.{◌≡◌, ap}
use Prim.Native.Nat.{ℕ}
use lib.ListN.{length}
use Rattle.columns.specs.Column.{Bytes, Column}
use Rattle.network.specs.Settled as OfNetwork
use Rattle.blocks.proofs.Bulbs.{with_bulb, torch_charges_alike}
use Rattle.traits.proofs.Profiles.{traits_with_bulb}
use Rattle.refusals.specs.Check.{IsAccepted}
use Rattle.refusals.proofs.Bulbs.{no_bulb}
use Rattle.emitted.specs.Emitted.{emitted}
use Rattle.edges.specs.Edges.{network_of}
use Rattle.edges.proofs.Profiles.{same_network_by}
use Rattle.electrical.specs.Answer.{rounds_of, settled}

-- a table that 13 bytes accept, under these and a fourteenth
module _ (p t : Bytes) (long : length p ≡ 13) (h : IsAccepted p t) (b : ℕ) where
  -- what reaches what,
  pub network_with_bulb : network_of (with_bulb p b) t ≡ network_of p t
  network_with_bulb = same_network_by (with_bulb p b) p t (traits_with_bulb p t long (no_bulb p t long h) b) (torch_charges_alike p b long)

  -- the numbers that it settles to, and the rounds are those of the 13 bytes
  pub settled_with_bulb : (d : Column) → settled (with_bulb p b) t d ≡ settled p t d
  unfolding settled
  settled_with_bulb d = ap (λ N. OfNetwork.settled N (emitted t d)) network_with_bulb

  pub rounds_with_bulb : (d : Column) → rounds_of (with_bulb p b) t d ≡ rounds_of p t d
  unfolding rounds_of
  rounds_with_bulb d = ap (λ N. OfNetwork.rounds_of N (emitted t d)) network_with_bulb
