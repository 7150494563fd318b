-- What holds in every network, whatever is emitted: of the rounds, of the one set of dust levels, of power, of the larger of two emitted columns,
-- and of how far a change carries.
-- Assumes nothing.
use Rattle.std.specs.Prelude.{◌≡◌, true, false, ℕ, ◌≤◌, ◌<◌, max}
use Rattle.std.proofs.Math.Path.{ap}
use Rattle.std.proofs.Common.{sym, ◌∙◌, ⊎_elim, le_refl, le_trans, le_antisymm, arith}
use Rattle.std.proofs.Math.Nat.{le-max_left, le-max_right, min-le_left}
use Rattle.columns.specs.Column.{Column, row}
use Rattle.columns.specs.Signal.{max_signal, AtMost15}
use Rattle.columns.proofs.Columns.{row_tabulate}
use Rattle.network.specs.Levels.{arriving}
use Rattle.network.specs.Network.{Network, strong_of, level, round, after, Answers, Rounds, Satisfies, Breaks}
use Rattle.network.specs.Settled.{settling, rounds_of, settled}
use Rattle.network.specs.Compare.{Rel₂, Rel₃, Larger, AtMost, Within, AtEveryRow₂, AtEveryRow₃, States₂, States₃, PowerOnMap}
use Rattle.network.specs.Laws.Kept.{Kept, after_kept}
use Rattle.network.specs.Laws.Settle.{seventeen, stay, satisfied, satisfied_is, satisfied_or}
use Rattle.network.specs.Laws.FirstAnswering.{none_yet}
use Rattle.network.specs.Laws.Join.{larger_kept, answers_larger}
use Rattle.network.specs.Laws.Map.{strong_of_off, weak_of_off}

-- ---- the rounds

module _ (N : Network) (e : Column) where
  -- The number of rounds is that of the first round that answers,
  pub rounds_first : Rounds N e (rounds_of N e)
  unfolding rounds_of
  rounds_first = (settling N e).first

  -- and no other number is.
  pub rounds_are : {k : ℕ} → Rounds N e k → rounds_of N e ≡ k
  rounds_are r = le_antisymm (rounds_first.least _ r.answers) (r.least _ rounds_first.answers)

  -- It is from 1 to 17.
  pub rounds_range : (1 ≤ rounds_of N e) × (rounds_of N e ≤ 17)
  rounds_range = (none_yet N e _ rounds_first.answers, rounds_first.least 17 (seventeen N e))

  -- Once a round answers every later one does, and all of them leave the same numbers: the settled ones.
  pub answers_later : (k m : ℕ) → Answers N e k → k ≤ m → Answers N e m × (after N e m ≡ settled N e)
  unfolding settled
  answers_later k m a h = stay N e rounds_first.answers (le_trans (rounds_first.least k a) h)

  -- They are what 17 rounds leave.
  settled_is : settled N e ≡ after N e 17
  settled_is = sym (answers_later 17 17 (seventeen N e) (le_refl 17)).1

  -- One more round leaves them as they are.
  pub settled_again : round N e (settled N e) ≡ settled N e
  unfolding after
  settled_again = ap (round N e) settled_is ∙ (answers_later 17 18 (seventeen N e) (omega arith)).1

  -- ---- the dust

  -- Exactly one set of dust levels satisfies the definition, the settled one: it does,
  pub settled_satisfies : Satisfies N e (row (settled N e).signal)
  settled_satisfies = rw settled_is (satisfied N e)

  -- any set that does agrees with it at every dust,
  pub settled_only : (x : ℕ → ℕ) → Satisfies N e x → (i : ℕ) → i < N.size → N.dust i ≡ true → x i ≡ row (settled N e).signal i
  settled_only x h i l d = rw settled_is (satisfied_is N e x h i l d)

  -- and any other set breaks it at some dust, which is named.
  pub others_break : (x : ℕ → ℕ) (i : ℕ) → i < N.size → N.dust i ≡ true → ¬ (x i ≡ row (settled N e).signal i) → Breaks N e x
  others_break x i l d n = ⊎_elim (λ h. absurd (n (settled_only x h i l d))) (λ b. b) (satisfied_or N e x)

  -- No settled level of dust is above the cap, whatever is emitted.
  pub settled_capped : (i : ℕ) → i < N.size → N.dust i ≡ true → row (settled N e).signal i ≤ max_signal
  unfolding level
  settled_capped i l d = rw (← settled_satisfies i l d) (min-le_left _ _)

  -- ---- strong power, power off the map, and the largest numbers

  -- Settled strong power at a row is the largest emitted level with an edge of strong power to it.
  pub settled_strong : (i : ℕ) → i < N.size → row (settled N e).strong i ≡ arriving N.size N.emitted_to_strong (row e) i
  unfolding round strong_of
  settled_strong i l = rw (← settled_again) (row_tabulate N.size _ i l)

  -- Power is 0 off the map, where power reaches only rows of the map.
  pub off_map : PowerOnMap N → (i : ℕ) → N.mapped i ≡ false → (row (settled N e).weak i ≡ 0) × (row (settled N e).strong i ≡ 0)
  unfolding round
  off_map o i off = rw (← settled_again) (weak_of_off N o i off _ _, strong_of_off N o i off e)

  -- No settled number is above the cap, where no emitted level is.
  pub settled_bounded : ((i : ℕ) → row e i ≤ max_signal) → AtMost15 (settled N e).signal (settled N e).weak (settled N e).strong
  settled_bounded h = rw settled_is (record { signals = all.signal.at; weaks = all.weak.at; strongs = all.strong.at })
    where
      Below : Rel₃
      Below x y z = x ≤ max_signal

      kept : Kept Below Below
      kept = omega arith

      all : States₃ Below (after N e 17) (after N e 17) (after N e 17)
      all = after_kept N kept (record { at = h }) 17

-- ---- the larger of two emitted columns

module _ (N : Network) {a b c : Column} (j : AtEveryRow₃ Larger a b c) where
  -- Where the third emitted level is the larger of the first two at every row, so are signal, weak and strong power, settled,
  pub settled_larger : States₃ Larger (settled N a) (settled N b) (settled N c)
  settled_larger = rw (settled_is N a, settled_is N b, settled_is N c) (after_kept N larger_kept j 17)

  -- and the rounds are at most the larger number of rounds.
  pub rounds_larger : rounds_of N c ≤ max (rounds_of N a) (rounds_of N b)
  rounds_larger =
      let m = max (rounds_of N a) (rounds_of N b) in
      (rounds_first N c).least m
      (answers_larger N j m
      (answers_later N a _ m (rounds_first N a).answers (le-max_left _ _)).0
      (answers_later N b _ m (rounds_first N b).answers (le-max_right _ _)).0)

-- ---- how far a change carries

-- after 17 rounds a relation between two numbers that every round keeps holds of what they leave
module _ (N : Network) {R : Rel₂} (kept : Kept (λ x y z. R x y) (λ x y z. R x y)) {a b : Column} (h : AtEveryRow₂ R a b) where
  settled_kept : States₂ R (settled N a) (settled N b)
  settled_kept =
      let k = after_kept N kept {c = b} (record { at = h.at }) 17 in
      rw (settled_is N a, settled_is N b)
      (record {
        signal = record { at = k.signal.at };
        on_map = record { at = k.on_map.at };
        weak = record { at = k.weak.at };
        strong = record { at = k.strong.at };
      })

module _ (N : Network) {a b : Column} where
  -- Emitted levels that differ by at most d at every row settle to numbers that differ by at most d.
  pub settled_within : (d : ℕ) → AtEveryRow₂ (Within d) a b → States₂ (Within d) (settled N a) (settled N b)
  settled_within d h = settled_kept N within_kept h
    where
      within_kept : Kept (λ x y z. Within d x y) (λ x y z. Within d x y)
      within_kept = omega arith

  -- Where no emitted level is lower, no settled number is.
  pub settled_at_most : AtEveryRow₂ AtMost a b → States₂ AtMost (settled N a) (settled N b)
  settled_at_most h = settled_kept N at_most_kept h
    where
      at_most_kept : Kept (λ x y z. AtMost x y) (λ x y z. AtMost x y)
      at_most_kept = omega arith
