-- Document 02, Change 3, over tables: what value 32 of the torch's byte does to settling. That the join rule and the bound of 17 hold with the
-- value set or clear is in Demand.antt.
-- Assumes nothing.
use mathlib.Core.Path.{◌≡◌, ap}
use mathlib.Core.Bool.{Bool, true, false, cond, ◌||◌, or-true}
use Prim.Native.Nat.{ℕ, ◌≤◌, ◌<◌, max}
use native.Mathlib.Nat.{le_antisymm}
use Rattle.columns.specs.Column.{Bytes, Column, row}
use Rattle.columns.specs.Signal.{max_signal}
use Rattle.columns.proofs.Columns.{row_tabulate}
use Rattle.network.specs.Levels.{arriving}
use Rattle.network.specs.Settled as OfNetwork
use Rattle.network.specs.Demand.{settled_strong}
use Rattle.network.specs.Laws.Gather.{le_top, arriving_or}
use Rattle.blocks.specs.Kind.{RedstoneTorch}
use Rattle.blocks.specs.Profile.{torch_charges_above}
use Rattle.blocks.proofs.Values.{without_value}
use Rattle.places.specs.Places.{above, same_pos}
use Rattle.world.specs.Rows.{rows, pos_of, kind_of}
use Rattle.traits.specs.Traits.{traits}
use Rattle.emitted.specs.Emitted.{IsValid, emitted_level, emitted}
use Rattle.edges.specs.Edges.{is_over_torch, emitted_to_strong, network_of}
use Rattle.edges.proofs.Profiles.{with_strong}
use Rattle.edges.proofs.Torches.{strong01, network01, over_torch, network_without_value, network_with_value, network_of_rest}
use Rattle.electrical.specs.Answer.{rounds_of, settled, Settles}
use Rattle.electrical.proofs.Demand.{settles, settled_at_most_15, settle_at_most_15}

-- ---- "Without it the answer is the Rust's": the settled numbers and the rounds are those of document 01's network

module _ (p t : Bytes) (clear : torch_charges_above p ≡ false) (d : Column) where
  pub settled_without_value : settled p t d ≡ OfNetwork.settled (network01 p t) (emitted t d)
  unfolding settled
  settled_without_value = ap (λ N. OfNetwork.settled N (emitted t d)) (network_without_value p t clear)

  pub rounds_without_value : rounds_of p t d ≡ OfNetwork.rounds_of (network01 p t) (emitted t d)
  unfolding rounds_of
  rounds_without_value = ap (λ N. OfNetwork.rounds_of N (emitted t d)) (network_without_value p t clear)

-- ---- With it settled strong power is what it is without the value or, where that is more, what a torch gives the block above

pub strong_with_value : (p t : Bytes) → torch_charges_above p ≡ true → (d : Column) (i : ℕ) → i < rows t
    → row (settled p t d).strong i
    ≡ max (row (settled (without_value p) t d).strong i) (arriving (rows t) (over_torch p t) (row (emitted t d)) i)
unfolding settled network_of
strong_with_value p t value d i l =
    let e = emitted t d in
    let either : ℕ → ℕ → Bool = λ j k. strong01 p t j k || over_torch p t j k in
    rw (network_with_value p t value, network_of_rest p t, settled_strong (with_strong (network01 p t) either) e i l, settled_strong (network01 p t) e i l)
    (arriving_or (rows t) (strong01 p t) (over_torch p t) (row e) i)

-- ---- "With it, a lit torch of any shape gives strong power 15 to the block above where that block receives strong"

-- row j is a lit torch, of whatever shape and support, and row i "the block above where that block receives strong"
pub record OverLitTorch (p t : Bytes) (d : Column) (j i : ℕ) : Type 0 where
  pub torch_inside : j < rows t
  pub inside : i < rows t
  pub is_torch : kind_of t j ≡ RedstoneTorch
  pub is_lit : row d j ≡ 1
  pub is_above : same_pos (above (pos_of t j)) (pos_of t i) ≡ true
  pub receives : (traits p t i).strong ≡ true

-- strong power at row i, as it arrives
arrives : (p t : Bytes) (d : Column) (i : ℕ) → i < rows t → row (settled p t d).strong i ≡ arriving (rows t) (emitted_to_strong p t) (row (emitted t d)) i
unfolding settled network_of
arrives p t d i l = settled_strong (network_of p t) (emitted t d) i l

module _ (t : Bytes) (d : Column) where
  emits : (k : ℕ) → k < rows t → row (emitted t d) k ≡ emitted_level t k (row d k)
  unfolding emitted
  emits k l = row_tabulate (rows t) (λ k. emitted_level t k (row d k)) k l

module _ {p t : Bytes} {d : Column} {j i : ℕ} (value : torch_charges_above p ≡ true) (o : OverLitTorch p t d j i) where
  reached : emitted_to_strong p t j i ≡ true
  unfolding emitted_to_strong is_over_torch
  reached = rw (o.receives, o.is_torch, value, o.is_above, or-true, or-true, or-true)

  lit : row (emitted t d) j ≡ max_signal
  unfolding emitted_level
  lit = rw (emits t d j o.torch_inside, o.is_torch, o.is_lit)

  reaches : max_signal ≤ row (settled p t d).strong i
  unfolding arriving
  reaches =
      rw (arrives p t d i o.inside)
      (rw (reached, lit) at (le_top (rows t) (λ k. cond (emitted_to_strong p t k i) (row (emitted t d) k) 0) j o.torch_inside))

  pub torch_charges : IsValid t d → row (settled p t d).strong i ≡ max_signal
  torch_charges v = le_antisymm ((settled_at_most_15 p t d v).strongs i) reaches

  -- and 15 is what settle writes, where it does not refuse
  pub torch_charges_written : {limit : ℕ} {signal weak strong signal' weak' strong' : Column} {r : ℕ}
      → Settles p t d limit signal weak strong signal' weak' strong' r → r < 65536 → row strong' i ≡ max_signal
  torch_charges_written s h = le_antisymm ((settle_at_most_15 s h).strongs i) (rw (settles s h).strongs reaches)
