-- Law: the keys that the pass leaves, the columns and the number of rounds by them are the settled ones of the network.
-- Assumes nothing.
use mathlib.Core.Path.{◌≡◌, ap, sym, ◌∙◌}
use mathlib.Core.Bool.{Bool, true, false, true≢false}
use Prim.Native.Nat.{ℕ, ◌*◌, ◌-◌, ◌≤◌, ◌<◌, min, max}
use native.Mathlib.Omega.{arith}
use lib.ListN.{length}
use Rattle.columns.specs.Column.{Column, row, tabulate}
use Rattle.columns.specs.Signal.{max_signal}
use Rattle.columns.proofs.Columns.{length_tabulate, row_tabulate, same_rule}
use Rattle.network.specs.Levels.{top, arriving}
use Rattle.network.specs.Network.{Network, strong_of, signals, round}
use Rattle.network.specs.Settled.{rounds_of, settled}
use Rattle.network.specs.Demand.{settled_again}
use Rattle.network.specs.Laws.Top.{top_same}
use Rattle.network.specs.Laws.Loop.{Answered}
use Rattle.network.specs.Laws.Keys.{level_of, round_of, OnDust, Keys, base, under_key, last_dust, last_weak, rounds_by, settled_signal, settled_weak, keys_rounds}
use Rattle.circuit.specs.declared.Edge.{Edge}
use Rattle.circuit.specs.declared.Edge.TheVariants.{DustToWeak, Transmits, EmittedToDust, StrongToDust}
use Rattle.circuit.specs.Circuit.{Shaped, edge_in, circuit}
use Rattle.circuit.proofs.Ends.{receives_in, edge_ends, none_received, circuit_on_map}
use Rattle.power.specs.Power.{base_of, direct_of, Powered}
use Rattle.power.proofs.Mapped.{unmapped_is}
use Rattle.keys.specs.Pass.{own_keys, Kept}
use Rattle.keys.specs.Rounds.{shown_by, last_of, last_shown}
use Rattle.keys.specs.Settle.{under_of, signals_by, weak_by, rounds_from}
use Rattle.keys.proofs.Passing.{arriving_least}

-- settled strong power is that of the emitted levels
pub strong_settled : (N : Network) (e : Column) → strong_of N e ≡ (settled N e).strong
unfolding round
strong_settled N e = ap (λ t. t.strong) (settled_again N e)

module _ {near class : Column} (shaped : Shaped near class) where
  abbrev N : Network
  N = circuit near class

  -- only dust transmits, and only dust gives weak power by its level
  on_dust : OnDust N
  unfolding circuit
  on_dust =
      record {
        transmits = λ j i h. (edge_ends shaped Transmits j i h).sends;
        dust_to_weak = λ j i h. (edge_ends shaped DustToWeak j i h).sends;
      }

  -- nothing arrives by an edge that leads only to dust where no dust is
  none_arrives : (e : Edge) (f : ℕ → ℕ) (i : ℕ) → receives_in e (row class i) ≡ false → arriving (length class) (edge_in near class e) f i ≡ 0
  none_arrives e f i off =
      let low : arriving (length class) (edge_in near class e) f i ≤ 0 =
      arriving_least (length class) (edge_in near class e) f i 0 (λ j l h. absurd_edge (none_received shaped e j i off) h) in
      omega arith
    where
      absurd_edge : {b : Bool} {A : Type 0} → b ≡ false → b ≡ true → A
      absurd_edge p q = absurd (true≢false (sym q ∙ p))

  module _ (e x : Column) (kept : Kept (length class) (edge_in near class Transmits) (own_keys (direct_of N e (strong_of N e))) x) where
    direct_row : (i : ℕ) → i < length class → row (direct_of N e (strong_of N e)) i ≡ max (arriving (length class) (edge_in near class EmittedToDust) (row e) i) (arriving (length class) (edge_in near class StrongToDust) (row (strong_of N e)) i)
    unfolding circuit direct_of
    direct_row i l = row_tabulate (length class) _ i l

    length_direct : length (direct_of N e (strong_of N e)) ≡ length class
    unfolding circuit direct_of
    length_direct = length_tabulate (length class) 0 _

    own_row : (i : ℕ) → i < length class → row (own_keys (direct_of N e (strong_of N e))) i ≡ 16 * min max_signal (row (direct_of N e (strong_of N e)) i)
    unfolding own_keys
    own_row i l = row_tabulate (length (direct_of N e (strong_of N e))) _ i (rw length_direct l)

    -- the rule for keys gives them back
    keys_are : Keys N e x
    unfolding circuit
    keys_are =
        record {
          byte = λ i. let low = kept.low i in omega arith;
          rule = λ i l d. kept.rule i l ∙ rw (own_row i l, direct_row i l);
          bare =
              λ i l d.
              kept.rule i l
              ∙ rw (
                own_row i l,
                direct_row i l,
                none_arrives EmittedToDust (row e) i d,
                none_arrives StrongToDust (row (strong_of N e)) i d,
                none_arrives Transmits (λ j. row x j - 17) i d,
              );
        }

    base_row : (i : ℕ) → i < length class → row (base_of N (strong_of N e)) i ≡ base N e x i
    unfolding circuit base_of
    base_row i l = row_tabulate (length class) _ i l

    under_row : (i : ℕ) → i < length class → row (under_of near class x) i ≡ under_key N e x i
    unfolding circuit under_of
    under_row i l = row_tabulate (length class) _ i l

    length_base : length (base_of N (strong_of N e)) ≡ length class
    unfolding circuit base_of
    length_base = length_tabulate (length class) 0 _

    length_under : length (under_of near class x) ≡ length class
    unfolding under_of
    length_under = length_tabulate (length class) 0 _

    last-dust : last_of x ≡ last_dust N e x
    unfolding circuit last_of last_dust
    last-dust = ap (λ n. top n (λ i. round_of (row x i))) kept.sized

    last-weak : last_shown (base_of N (strong_of N e)) (under_of near class x) ≡ last_weak N e x
    unfolding circuit last_shown last_weak
    last-weak =
        ap (λ n. top n (λ i. shown_by (row (base_of N (strong_of N e)) i) (row (under_of near class x) i))) length_under
        ∙ top_same (length class) _ _ (λ i l. rw (base_row i l, under_row i l))

    rounds_are : rounds_of N e ≡ rounds_from class x (base_of N (strong_of N e)) (under_of near class x)
    unfolding rounds_from rounds_by
    rounds_are = keys_rounds N on_dust (circuit_on_map shaped) e x keys_are ∙ rw (last-dust, last-weak, unmapped_is near class)

    signal_is : signals_by class e x ≡ (settled N e).signal
    unfolding circuit signals_by signals
    signal_is = sym (settled_signal N on_dust (circuit_on_map shaped) e x keys_are)

    weak_is : weak_by (base_of N (strong_of N e)) (under_of near class x) ≡ (settled N e).weak
    unfolding circuit weak_by
    weak_is =
        ap (λ n. tabulate n (λ i. max (row (base_of N (strong_of N e)) i) (level_of (row (under_of near class x) i)))) length_base
        ∙ same_rule (length class) _ _ (λ i l. rw (base_row i l, under_row i l))
        ∙ sym (settled_weak N on_dust (circuit_on_map shaped) e x keys_are)

    -- the columns, and the number of rounds
    pub settled_by_keys : Answered N e (strong_of N e) (rounds_from class x (base_of N (strong_of N e)) (under_of near class x)) (signals_by class e x)
        (weak_by (base_of N (strong_of N e)) (under_of near class x))
    settled_by_keys = record { rounds = rounds_are; signal = signal_is; weak = weak_is; strong = strong_settled N e }

  -- of columns that hold these
  pub settles : {e strong base direct under x signal weak : Column} {r : ℕ} → Powered N e strong base direct
      → Kept (length class) (edge_in near class Transmits) (own_keys direct) x → under ≡ under_of near class x → signal ≡ signals_by class e x
      → weak ≡ weak_by base under → r ≡ rounds_from class x base under → Answered N e strong r signal weak
  settles {e} {x = x} p kept u s w r =
      rw (s, w, r, u, p.base_is, p.strong_is) (settled_by_keys e x (rw p.direct_is at kept))
