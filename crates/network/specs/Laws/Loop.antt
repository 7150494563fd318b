-- A solver's loop, which keeps the signals and the weak power of the last round. Strong power is the same in every round, and so is the map but
-- before the first: so the loop asks once whether the map is empty, and keeps no map.
-- Of the definitions here, `unmapped`, `repeats` and `Answered` stand in contracts of inner functions; no call of the editor speaks of them. The rest
-- are proved laws: nobody has to believe them, or read them to know what is promised. Assumes nothing.
use Rattle.std.proofs.Math.Path.{◌≡◌, refl, ap, sym}
use Rattle.std.proofs.Common.{◌∙◌, arith, lt-ltb}
use Rattle.std.specs.Prelude.{Bool, ◌&&◌, ◌||◌, ltb}
use Rattle.std.proofs.Math.Bool.{true, false, cond}
use Rattle.std.proofs.lemmas.Bool.{false≢true}
use Prim.Native.Nat.{ℕ, zero, suc, ◌+◌, ◌<◌}
use Rattle.std.proofs.Math.Numerals.{add-one}
use Rattle.columns.specs.Column.{Column, row, same}
use Rattle.columns.proofs.Columns.{length_tabulate, row_tabulate, same_rule, is_tabulate, same_true, same_refl}
use Rattle.columns.proofs.Truth.{and_true}
use Rattle.network.specs.Network.{Network, strong_of, weak_of, level, signals, on_map_of, empty_map, start, round, after, Answers}
use Rattle.network.specs.Settled.{rounds_of, settled}
use Rattle.network.specs.Compare.{PowerOnMap}
use Rattle.network.specs.Demand.{rounds_first, rounds_are}
use Rattle.network.specs.Laws.States.{one_state}
use Rattle.network.specs.Laws.FirstAnswering.{none_yet, none_more}
use Rattle.network.specs.Laws.Map.{strong_of_off, weak_of_off}

-- ---- the map

-- no row stands on the map: it is empty
unfoldable pub unmapped : Network → Bool
unmapped N = same (on_map_of N) (empty_map N)

module _ (N : Network) where
  pub unmapped_true : ((i : ℕ) → i < N.size → N.mapped i ≡ false) → unmapped N ≡ true
  unfolding unmapped on_map_of empty_map
  unmapped_true h = rw (same_rule N.size (λ i. cond (N.mapped i) 1 0) (λ i. 0) (λ i l. rw (h i l))) (same_refl (empty_map N))

  none-mapped : on_map_of N ≡ empty_map N → (i : ℕ) → i < N.size → N.mapped i ≡ false
  unfolding on_map_of empty_map
  none-mapped p i l = go (N.mapped i) refl
    where
      is : ◌≡◌ {A = ℕ} (cond (N.mapped i) 1 0) 0
      is = sym (row_tabulate N.size _ i l) ∙ ap (λ c. row c i) p ∙ row_tabulate N.size _ i l

      go : (b : Bool) → N.mapped i ≡ b → N.mapped i ≡ false
      go true q = absurd (let z : ◌≡◌ {A = ℕ} 1 0 = rw q at is in omega arith)
      go false q = q

  pub unmapped_false : (i : ℕ) → i < N.size → N.mapped i ≡ true → unmapped N ≡ false
  unfolding unmapped
  unmapped_false i l q = go (unmapped N) refl
    where
      go : (b : Bool) → unmapped N ≡ b → unmapped N ≡ false
      go true p = absurd (false≢true (sym (none-mapped (same_true _ _ p) i l) ∙ q))
      go false p = p

module _ (N : Network) (o : PowerOnMap N) (e : Column) where
  strong_unmapped : unmapped N ≡ true → strong_of N e ≡ empty_map N
  unfolding unmapped empty_map strong_of
  strong_unmapped b =
      is_tabulate (strong_of N e) N.size (λ i. 0) (length_tabulate N.size 0 _)
      (λ i l. strong_of_off N o i (none-mapped N (same_true _ _ b) i l) e)

  pub weak_unmapped : unmapped N ≡ true → (g s : Column) → weak_of N g s ≡ empty_map N
  unfolding unmapped empty_map weak_of
  weak_unmapped b g s =
      is_tabulate (weak_of N g s) N.size (λ i. 0) (length_tabulate N.size 0 _)
      (λ i l. weak_of_off N o i (none-mapped N (same_true _ _ b) i l) g s)

  -- round k + 1 answers where signals and weak power repeat, and the map does: some round was before, or it is empty
  pub answers_when : (k : ℕ) → (after N e (suc k)).signal ≡ (after N e k).signal → (after N e (suc k)).weak ≡ (after N e k).weak
      → (ltb 0 k || unmapped N) ≡ true → Answers N e (suc k)
  unfolding after start round unmapped
  answers_when zero p q b = one_state p (same_true _ _ b) q (strong_unmapped b)
  answers_when (suc k) p q b = one_state p refl q refl

  -- and only there
  pub answers_map : (k : ℕ) → Answers N e (suc k) → (ltb 0 k || unmapped N) ≡ true
  unfolding after start round unmapped
  answers_map zero a = let p : on_map_of N ≡ empty_map N = ap (λ t. t.on_map) a in rw p (same_refl (empty_map N))
  answers_map (suc k) a = rw (lt-ltb 0 (suc k) (omega arith))

-- ---- the loop

-- None of the k rounds so far answered. They left the signals s and the weak power w; g is the strong power, and `empty` says whether the map is.
pub record Unanswered (N : Network) (e : Column) (empty : Bool) (g : Column) (k : ℕ) (s w : Column) : Type 0 where
  pub map : empty ≡ unmapped N
  pub strong : g ≡ strong_of N e
  pub signal : s ≡ (after N e k).signal
  pub weak : w ≡ (after N e k).weak
  pub none : (j : ℕ) → Answers N e j → k < j

-- The number of rounds is k, and s, w and g are settled.
pub record Answered (N : Network) (e : Column) (g : Column) (k : ℕ) (s w : Column) : Type 0 where
  pub rounds : rounds_of N e ≡ k
  pub signal : s ≡ (settled N e).signal
  pub weak : w ≡ (settled N e).weak
  pub strong : g ≡ (settled N e).strong

-- Whether round k + 1 answers, which takes s and w to s' and w': the first one only where the map is empty.
abbrev pub repeats : Bool → ℕ → Column → Column → Column → Column → Bool
repeats empty k s w s' w' = same s s' && same w w' && (ltb 0 k || empty)

pub unanswered_start : {N : Network} {e : Column} {empty : Bool} {g s w : Column} → empty ≡ unmapped N → g ≡ strong_of N e
    → s ≡ signals N e (λ i. 0) → w ≡ empty_map N → Unanswered N e empty g 0 s w
unfolding after start
unanswered_start {N} {e} m h p q = record { map = m; strong = h; signal = p; weak = q; none = none_yet N e }

-- the rounds are more than k: a limit of k is below them
pub unanswered_out : {N : Network} {e : Column} {empty : Bool} {g : Column} {k : ℕ} {s w : Column} → Unanswered N e empty g k s w → k < rounds_of N e
unanswered_out {N} {e} h = h.none (rounds_of N e) (rounds_first N e).answers

-- round k + 1
module _ {N : Network} (o : PowerOnMap N) {e : Column} {empty : Bool} {g : Column} {k : ℕ} {s w s' w' : Column} (h : Unanswered N e empty g k s w)
    (turned : s' ≡ signals N e (level N e g s)) (powered : w' ≡ weak_of N g s) where
  next_signal : s' ≡ (after N e (suc k)).signal
  unfolding after round
  next_signal = turned ∙ rw (h.strong, h.signal)

  next_weak : w' ≡ (after N e (suc k)).weak
  unfolding after round
  next_weak = powered ∙ rw (h.strong, h.signal)

  -- answers: so k + 1 is the number of rounds
  pub answered_next : repeats empty k s w s' w' ≡ true → Answered N e g (k + 1) s' w'
  unfolding settled after round
  answered_next t =
      let (both, m) = and_true (same s s' && same w w') _ t in
      let (p, q) = and_true (same s s') _ both in
      let answers : Answers N e (suc k) =
      answers_when N o e k
      (sym next_signal ∙ sym (same_true _ _ p) ∙ h.signal)
      (sym next_weak ∙ sym (same_true _ _ q) ∙ h.weak)
      (rw h.map at m) in
      let is : rounds_of N e ≡ suc k = rounds_are N e (record { answers = answers; least = h.none }) in
      record { rounds = rw add-one is; signal = rw is next_signal; weak = rw is next_weak; strong = rw is h.strong }

  -- does not answer: so none up to k + 1 does
  pub unanswered_next : repeats empty k s w s' w' ≡ false → Unanswered N e empty g (k + 1) s' w'
  unanswered_next t =
      rw add-one
      (record {
        map = h.map;
        strong = h.strong;
        signal = next_signal;
        weak = next_weak;
        none = none_more N e k (λ a. false≢true (sym t ∙ repeated a)) h.none;
      })
    where
      repeated : Answers N e (suc k) → repeats empty k s w s' w' ≡ true
      repeated a =
          let p : s' ≡ s = next_signal ∙ ap (λ t. t.signal) a ∙ sym h.signal in
          let q : w' ≡ w = next_weak ∙ ap (λ t. t.weak) a ∙ sym h.weak in
          rw (p, q, same_refl s, same_refl w, h.map, answers_map N o e k a)
