-- Laws: over the prepared columns a round gives the network's next signals and weak power, and the loop of rounds its settled ones.
-- Assumes nothing.
use mathlib.Core.Path.{◌≡◌, refl, ap, sym, ◌∙◌}
use mathlib.Core.Bool.{Bool, true, false, cond}
use Prim.Native.Nat.{ℕ, ◌+◌, ◌≤◌, ◌<◌, min, max}
use native.Mathlib.Omega.{arith}
use lib.ListN.{length}
use lib.Dec.{leb}
use Rattle.std.specs.Prelude.{Option, None}
use borrow.Author.Tests.{leb-true, le-leb, lt-leb}
use Rattle.columns.specs.Column.{Column, row, tabulate}
use Rattle.columns.proofs.Columns.{length_tabulate, row_tabulate, same_rule}
use Rattle.network.specs.Levels.{arriving}
use Rattle.network.specs.Network.{Network, strong_of, weak_of, level, signals, empty_map}
use Rattle.network.specs.Settled.{rounds_of, settled}
use Rattle.network.specs.Demand.{rounds_range}
use Rattle.levels.specs.declared.signal.Rounds.{Rounds}
use Rattle.network.specs.Laws.Loop.{unmapped, Unanswered, Answered, repeats, unanswered_start, answered_next, unanswered_next, unanswered_out}
use Rattle.refusals.specs.Check.{accepted, refuse_unless}
use Rattle.electrical.specs.Answer.{Columns}
use Rattle.circuit.specs.Circuit.{Shaped, circuit, signals_in}
use Rattle.circuit.proofs.Ends.{circuit_on_map}
use Rattle.power.specs.Power.{base_of, direct_of, none_mapped}
use Rattle.power.proofs.Mapped.{unmapped_is}
use Rattle.round.specs.Round.{next_signals, next_weaks}
use Rattle.rounds.specs.Prepared.{Prepared, Room, Turns}
use Rattle.rounds.specs.Outcome.{settled_in, outcome_of, written_by, RunsRounds, Solves}

-- ---- a round

module _ (N : Network) (e g s : Column) where
  signals_are : {direct : Column} → direct ≡ direct_of N e g → next_signals N e direct s ≡ signals N e (level N e g s)
  unfolding direct_of next_signals level signals
  signals_are is =
      same_rule N.size _ _
      (λ i l.
      rw (is, row_tabulate N.size (λ k. max (arriving N.size N.emitted_to_dust (row e) k) (arriving N.size N.strong_to_dust (row g) k)) i l))

  weaks_are : {base : Column} → base ≡ base_of N g → next_weaks N base s ≡ weak_of N g s
  unfolding base_of next_weaks weak_of
  weaks_are is = same_rule N.size _ _ (λ i l. rw (is, row_tabulate N.size (arriving N.size N.strong_to_weak (row g)) i l))

-- over the prepared columns
pub turns : {near class e base direct : Column} → Prepared near class e base direct → {rounds : ℕ} {s w s' w' : Column} {r : Bool}
    → s' ≡ next_signals (circuit near class) e direct s → w' ≡ next_weaks (circuit near class) base s → r ≡ repeats (none_mapped class) rounds s w s' w'
    → Turns (circuit near class) e rounds s w s' w' r
turns {near} {class} {e} p {s = s} signal weak answer =
    record {
      signal = signal ∙ signals_are (circuit near class) e _ s p.direct_is;
      weak = weak ∙ weaks_are (circuit near class) e _ s p.base_is;
      answer = rw (unmapped_is near class) answer;
    }

-- ---- the end of the loop

module _ {N : Network} {e : Column} {limit : ℕ} where
  pub ran_settled : {k : ℕ} {s w : Column} → Answered N e (strong_of N e) k s w → k ≤ limit → RunsRounds N e limit s w (settled_in k)
  unfolding outcome_of
  ran_settled {k} h l = record { answer = rw (h.rounds, le-leb k limit l); levels = λ _. rw h.rounds h }

  pub ran_unsettled : {empty : Bool} {g : Column} {k : ℕ} {s₀ w₀ s w : Column} → Unanswered N e empty g k s₀ w₀ → min 17 limit ≤ k → RunsRounds N e limit s w None
  unfolding outcome_of
  ran_unsettled h l =
      let over : limit < rounds_of N e = omega (arith, unanswered_out h, (rounds_range N e).1) in
      record { answer = rw (lt-leb (rounds_of N e) limit over); levels = λ r. absurd (omega arith) }

  -- the columns written by how the loop ended
  module _ {s w g signal weak strong signal' weak' strong' : Column} {r : Option Rounds} (h : RunsRounds N e limit s w r) (g_is : g ≡ strong_of N e)
      (a : signal' ≡ written_by r signal s) (b : weak' ≡ written_by r weak w) (c : strong' ≡ written_by r strong g) where
    pub solves : Solves (rounds_of N e) (settled N e) limit signal weak strong signal' weak' strong' r
    unfolding outcome_of
    solves = record { answer = h.answer; columns = go (leb (rounds_of N e) limit) refl h.answer }
      where
        go : (d : Bool) → leb (rounds_of N e) limit ≡ d → r ≡ cond d (settled_in (rounds_of N e)) None
            → Columns (refuse_unless 8 d accepted) (settled N e) signal weak strong signal' weak' strong'
        go true l q =
            let n = h.levels (leb-true _ _ l) in
            record { signals = a ∙ rw q n.signal; weaks = b ∙ rw q n.weak; strongs = c ∙ rw q (g_is ∙ n.strong) }
        go false l q = record { signals = a ∙ rw q; weaks = b ∙ rw q; strongs = c ∙ rw q }

-- ---- the loop

-- after some rounds
pub record Turning (near class e : Column) (s0 w0 s1 w1 : Column) (rounds : ℕ) : Type 0 where
  pub shaped : Shaped near class
  pub room : Room (length class) s0 w0 s1 w1
  pub unanswered : Unanswered (circuit near class) e (unmapped (circuit near class)) (strong_of (circuit near class) e) rounds s0 w0

module _ {near class e : Column} where
  pub turning_start : {n : ℕ} {s1 w1 s w : Column} → Shaped near class → n ≡ length class → (length s1 ≡ length class) × (length w1 ≡ length class)
      → s ≡ signals_in class e (λ _. 0) → w ≡ tabulate n (λ _. 0) → Turning near class e s w s1 w1 0
  unfolding signals_in signals empty_map circuit
  turning_start shaped long lent p q =
      record {
        shaped = shaped;
        room =
            record {
              s0_rows = ap length p ∙ length_tabulate _ 0 _;
              w0_rows = ap length q ∙ length_tabulate _ 0 _ ∙ long;
              s1_rows = lent.0;
              w1_rows = lent.1;
            };
        unanswered = unanswered_start refl refl p (q ∙ rw long);
      }

  module _ {rounds : ℕ} {s0 w0 s1 w1 s w : Column} {r : Bool} (h : Turning near class e s0 w0 s1 w1 rounds)
      (t : Turns (circuit near class) e rounds s0 w0 s w r) where
    pub turning_stops : {limit : ℕ} → rounds < limit → r ≡ true → RunsRounds (circuit near class) e limit s w (settled_in (rounds + 1))
    turning_stops more is =
        ran_settled (answered_next (circuit_on_map h.shaped) h.unanswered t.signal t.weak (sym t.answer ∙ is)) (omega arith)

    pub turning_on : r ≡ false → {s0' w0' : Column} → s0' ≡ s → w0' ≡ w → Turning near class e s0' w0' s w (rounds + 1)
    unfolding signals weak_of circuit
    turning_on is p q =
        let s-rows : length s ≡ length class = ap length t.signal ∙ length_tabulate _ 0 _ in
        let w-rows : length w ≡ length class = ap length t.weak ∙ length_tabulate _ 0 _ in
        record {
          shaped = h.shaped;
          room = record { s0_rows = ap length p ∙ s-rows; w0_rows = ap length q ∙ w-rows; s1_rows = s-rows; w1_rows = w-rows };
          unanswered = rw (p, q) (unanswered_next (circuit_on_map h.shaped) h.unanswered t.signal t.weak (sym t.answer ∙ is));
        }
