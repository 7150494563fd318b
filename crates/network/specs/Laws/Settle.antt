-- Settling ends: fifteen rounds forget the levels at which the dust began. So round 17 answers, and its levels alone satisfy the definition.
-- Proved laws: nobody has to believe them, or read them to know what is promised. Assumes nothing.
use Rattle.std.specs.Prelude.{◌≡◌, Bool, true, false, ◌⊎◌, length}
use Rattle.std.proofs.Math.Path.{refl, ap}
use Rattle.std.proofs.Common.{sym, ◌∙◌, inl, inr, le_refl, add-one, below_none, below_more}
use Rattle.std.proofs.Math.Bool.{cond}
use Rattle.std.proofs.lemmas.Bool.{false≢true}
use mathlib.Core.List.{[]}
use Prim.Native.Nat.{ℕ, zero, suc, ◌+◌, ◌≤◌, ◌<◌, max}
use Rattle.std.proofs.Math.Nat.{min-le_left}
use Rattle.std.proofs.Math.Decide.{le_ind, ℕ_discrete}
use native.Mathlib.Omega.{arith}
use Rattle.columns.specs.Column.{Column, row}
use Rattle.columns.specs.Signal.{max_signal}
use Rattle.columns.proofs.Columns.{length_tabulate, row_tabulate, same_rows, same_rule}
use Rattle.network.specs.Network.{Network, strong_of, level, signals, start, round, after, Answers, Satisfies, SatisfiesAt, Breaks}
use Rattle.network.specs.Compare.{Rel₃, AtEveryRow₃}
use Rattle.network.specs.Laws.Kept.{Kept, signals_kept, level_kept}

-- at most the second number, or at most c
abbrev Near : ℕ → Rel₃
Near c x y z = x ≤ max y c

-- a round takes one off c
near_kept : (c : ℕ) → Kept (Near (suc c)) (Near c)
near_kept c = omega arith

cond_when : (t : Bool) (c : ℕ) {a b : ℕ} → (t ≡ true → a ≡ b) → cond t a c ≡ cond t b c
cond_when true c h = h refl
cond_when false c h = refl

module _ (N : Network) (e : Column) where
  open N use {size, dust}

  -- the signals of the next round
  next : Column → Column
  next s = signals N e (level N e (strong_of N e) s)

  near_same : (c : ℕ) → AtEveryRow₃ (Near c) e e e
  near_same c = record { at = λ i. omega arith }

  near_next : (c : ℕ) {s t : Column} → AtEveryRow₃ (Near (suc c)) s t t → AtEveryRow₃ (Near c) (next s) (next t) (next t)
  unfolding next
  near_next c u = signals_kept N (near_kept c) (near_same c) (level_kept N (near_kept c) (near_same c) u)

  -- the signals after each round, from any first ones
  record Run (u : ℕ → Column) : Type 0 where
    turn : (k : ℕ) → u (suc k) ≡ next (u k)

  near_run : {u v : ℕ → Column} → Run u → Run v → (k c : ℕ) → AtEveryRow₃ (Near (c + k)) (u 0) (v 0) (v 0) → AtEveryRow₃ (Near c) (u k) (v k) (v k)
  near_run p q zero c h = record { at = λ i. omega (arith, h.at i) }
  near_run p q (suc k) c h =
      rw (p.turn k, q.turn k) (near_next c (near_run p q k (suc c) (record { at = λ i. omega (arith, h.at i) })))

  -- signals whose dust is at the cap at most
  record Low (s : Column) : Type 0 where
    levels : ℕ → ℕ
    low : (i : ℕ) → levels i ≤ max_signal
    are : s ≡ signals N e levels

  near_low : {s t : Column} → Low s → Low t → AtEveryRow₃ (Near max_signal) s t t
  near_low p q = rw (p.are, q.are) (signals_kept N (near_kept max_signal) (near_same max_signal) (λ i. omega (arith, p.low i)))

  low_next : (s : Column) → Low (next s)
  unfolding next level
  low_next s = record { levels = level N e (strong_of N e) s; low = λ i. min-le_left max_signal _; are = refl }

  length_next : (s : Column) → length (next s) ≡ size
  unfolding next signals
  length_next s = length_tabulate size 0 _

  -- two runs meet after fifteen rounds
  forget : {u v : ℕ → Column} → Run u → Run v → Low (u 0) → Low (v 0) → u 15 ≡ v 15
  forget {u} {v} p q a b =
      same_rows size (u 15) (v 15) (ap length (p.turn 14) ∙ length_next _) (ap length (q.turn 14) ∙ length_next _)
      (λ i _. omega (arith, (near_run p q 15 0 (near_low a b)).at i, (near_run q p 15 0 (near_low b a)).at i))

  -- ---- the rounds

  -- from the round m on
  run_after : (m : ℕ) → Run (λ k. (after N e (k + m)).signal)
  unfolding after round next
  run_after m = record { turn = λ k. let p : suc k + m ≡ suc (k + m) = omega arith in rw p }

  low_after : (k : ℕ) → Low (after N e k).signal
  unfolding after start round next
  low_after zero = record { levels = λ i. 0; low = λ i. omega arith; are = refl }
  low_after (suc k) = low_next (after N e k).signal

  -- round 17 answers
  pub seventeen : Answers N e 17
  unfolding after round
  seventeen =
      ap (λ s. round N e (record { signal = s; on_map = []; weak = []; strong = [] }))
      (forget (run_after 1) (run_after 0) (low_after 1) (low_after 0))

  -- once a round answers, the next one does
  stays : (k : ℕ) → Answers N e k → Answers N e (suc k)
  unfolding after
  stays zero h = absurd h
  stays (suc k) h = ap (round N e) h

  -- and so does every later one, with the same numbers
  pub stay : {k m : ℕ} → Answers N e k → k ≤ m → Answers N e m × (after N e m ≡ after N e k)
  stay {k} {m} h = le_ind (λ j. Answers N e j × (after N e j ≡ after N e k)) (h, refl) (λ j _ r. (stays j r.0, stays j r.0 ∙ r.1)) m

  -- ---- the levels that satisfy the definition

  row_signals : (x : ℕ → ℕ) (i : ℕ) → i < size → dust i ≡ true → row (signals N e x) i ≡ x i
  unfolding signals
  row_signals x i l d = row_tabulate size _ i l ∙ ap (λ t. cond t (x i) (row e i)) d

  signals_again : (x : ℕ → ℕ) → signals N e (row (signals N e x)) ≡ signals N e x
  unfolding signals
  signals_again x = same_rule size _ _ (λ i l. cond_when (dust i) (row e i) (row_signals x i l))

  -- those of round 17 do
  pub satisfied : Satisfies N e (row (after N e 17).signal)
  unfolding after round next
  satisfied i l d =
      let fixed : (after N e 18).signal ≡ (after N e 17).signal = ap (λ t. t.signal) (stays 17 seventeen) in
      let whole : signals N e (row (after N e 17).signal) ≡ (after N e 17).signal = signals_again _ in
      rw whole (sym (row_signals _ i l d) ∙ ap (λ c. row c i) fixed)

  fixed_by : (x : ℕ → ℕ) → Satisfies N e x → next (signals N e x) ≡ signals N e x
  unfolding next signals
  fixed_by x h = same_rule size _ _ (λ i l. cond_when (dust i) (row e i) (h i l))

  -- and any that do are those of round 17
  pub satisfied_is : (x : ℕ → ℕ) → Satisfies N e x → (i : ℕ) → i < size → dust i ≡ true → x i ≡ row (after N e 17).signal i
  satisfied_is x h i l d =
      sym (row_signals x i l d)
      ∙ ap (λ s. row s i)
      (forget {u = λ k. signals N e x} (record { turn = λ k. sym (fixed_by x h) }) (run_after 2) (rw (fixed_by x h) at (low_next (signals N e x))) (low_after 2))

  -- levels satisfy the definition or break it at a dust: at the rows below m
  satisfied_below : (x : ℕ → ℕ) (m : ℕ) → m ≤ size → ((i : ℕ) → i < m → SatisfiesAt N e x i) ⊎ Breaks N e x
  satisfied_below x zero h = inl (λ i. below_none (SatisfiesAt N e x) i)
  satisfied_below x (suc m) h = go (satisfied_below x m (omega arith)) (dust m) refl (ℕ_discrete _ _)
    where
      more : ((i : ℕ) → i < m → SatisfiesAt N e x i) → SatisfiesAt N e x m → (i : ℕ) → i < suc m → SatisfiesAt N e x i
      more u v i l = below_more (SatisfiesAt N e x) m u v i (rw add-one l)

      go : ((i : ℕ) → i < m → SatisfiesAt N e x i) ⊎ Breaks N e x → (b : Bool) → dust m ≡ b
          → Dec (level N e (strong_of N e) (signals N e x) m ≡ x m) → ((i : ℕ) → i < suc m → SatisfiesAt N e x i) ⊎ Breaks N e x
      go (inr b) _ _ _ = inr b
      go (inl u) false p _ = inl (more u (λ q. absurd (false≢true (sym p ∙ q))))
      go (inl u) true p (yes q) = inl (more u (λ _. q))
      go (inl u) true p (no n) = inr (record { row = m; inside = h; is_dust = p; differs = n })

  pub satisfied_or : (x : ℕ → ℕ) → Satisfies N e x ⊎ Breaks N e x
  satisfied_or x = satisfied_below x size (le_refl size)
