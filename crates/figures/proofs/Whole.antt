-- What the figures of a month add up to: those of the rounds to the tables that are settled, those of the levels to the dust rows of these.
-- Assumes nothing.
use mathlib.Core.Path.{◌≡◌, refl, ap, ◌∙◌}
use mathlib.Core.Bool.{Bool, true, false, cond, ◌&&◌}
use mathlib.Core.Logic.{by_cases}
use mathlib.Core.List.{List, [], ◌∷◌}
use Prim.Native.Nat.{ℕ, zero, suc, ◌+◌, ◌-◌, ◌≤◌, ◌<◌}
use native.Mathlib.Decide.{dec_lt}
use native.Mathlib.Omega.{arith}
use lib.Dec.{eqb}
use borrow.Author.Tests.{eq-eqb, ne_eqb}
use Rattle.columns.specs.Column.{Bytes, row, tabulate_from, tabulate}
use Rattle.columns.proofs.Columns.{same_rule}
use Rattle.blocks.specs.Kind.{is_dust}
use Rattle.world.specs.Rows.{rows, kind_of}
use Rattle.levels.specs.Numbers.{number}
use Rattle.electrical.specs.Answer.{rounds_of, settled}
use Rattle.electrical.proofs.Demand.{rounds_range, settled_capped}
use Rattle.updates.specs.State.{fresh_devices}
use Rattle.figures.specs.Figures.{is_settled, settled_in, rounds_in, count_below, is_dust_at, dust_at, level_in, dust_in, sum_of, total, figures_of}
use Rattle.figures.proofs.Counting.{eqb_suc}

-- ---- the total of the n entries from the i-th on

total_none : (n i : ℕ) → total (tabulate_from i n (λ k. 0)) ≡ 0
unfolding total tabulate_from
total_none zero i = refl
total_none (suc n) i = omega (arith, total_none n (suc i))

total_added : (n i : ℕ) (f g : ℕ → ℕ) → total (tabulate_from i n (λ k. f k + g k)) ≡ total (tabulate_from i n f) + total (tabulate_from i n g)
unfolding total tabulate_from
total_added zero i f g = refl
total_added (suc n) i f g = omega (arith, total_added n (suc i) f g)

-- where only the a-th entry is 1, and is before these
total_past : (n i a : ℕ) → a < i → total (tabulate_from i n (λ k. number (eqb a k))) ≡ 0
unfolding total tabulate_from
total_past zero i a h = refl
total_past (suc n) i a h = rw (ne_eqb a i (λ e. omega arith)) (omega (arith, total_past n (suc i) a (omega arith)))

-- or among them
total_one : (n i a : ℕ) → i ≤ a → a < i + n → total (tabulate_from i n (λ k. number (eqb a k))) ≡ 1
unfolding total tabulate_from
total_one zero i a h l = absurd (omega arith)
total_one (suc n) i a h l =
    by_cases (dec_lt i a)
    (λ m. rw (ne_eqb a i (λ e. omega arith)) (omega (arith, total_one n (suc i) a m (omega arith))))
    (λ m. rw (eq-eqb a i (omega arith)) (omega (arith, total_past n (suc i) a (omega arith))))

-- ---- the total of a column of n entries

module _ (n : ℕ) where
  -- what a test holds of is counted once, at a number below n
  total_test : (b : Bool) (a : ℕ) → (b ≡ true → a < n) → total (tabulate n (λ k. number (b && eqb a k))) ≡ number b
  total_test true a h = total_one n 0 a (omega arith) (omega (arith, h refl))
  total_test false a h = total_none n 0

  -- where it is known of each number below m, it is of their counts
  total_counts : (f : ℕ → ℕ → Bool) (g : ℕ → Bool) (m : ℕ) → ((i : ℕ) → i < m → total (tabulate n (λ k. number (f k i))) ≡ number (g i))
      → total (tabulate n (λ k. count_below (f k) m)) ≡ count_below g m
  unfolding count_below
  total_counts f g zero h = total_none n 0
  total_counts f g (suc m) h =
      rw (total_added n 0 (λ k. count_below (f k) m) (λ k. number (f k m)), total_counts f g m (λ i l. h i (omega arith)), h m (omega arith))

  -- and where it is known of each table, of the sums over tables
  total_sums : (f : ℕ → Bytes → ℕ) (g : Bytes → ℕ) → ((t : Bytes) → total (tabulate n (λ k. f k t)) ≡ g t)
      → (ts : List Bytes) → total (tabulate n (λ k. sum_of (f k) ts)) ≡ sum_of g ts
  unfolding sum_of
  total_sums f g h [] = total_none n 0
  total_sums f g h (t ∷ ts) = rw (total_added n 0 (λ k. f k t) (λ k. sum_of (f k) ts), h t, total_sums f g h ts)

-- ---- the figures

module _ (p : Bytes) where
  -- each settled table is counted at one number of rounds: the seventeen figures add up to `tables=`
  pub rounds_total : (ts : List Bytes) → total (figures_of p ts).rounds ≡ (figures_of p ts).tables
  unfolding figures_of
  rounds_total = total_sums 17 (λ k. rounds_in p (k + 1)) (settled_in p) one
    where
      one : (t : Bytes) → total (tabulate 17 (λ k. rounds_in p (k + 1) t)) ≡ settled_in p t
      one t =
          let rounds = rounds_of p t (fresh_devices t) in
          let range = rounds_range p t (fresh_devices t) in
          ap total (same_rule 17 _ _ (λ k l. rw (eqb_suc rounds k range.0))) ∙ total_test 17 (is_settled p t) (rounds - 1) (λ h. omega arith)

  -- each dust row of a settled table is counted at one level: the sixteen figures add up to those rows
  pub levels_total : (ts : List Bytes) → total (figures_of p ts).levels ≡ sum_of (dust_in p) ts
  unfolding figures_of
  levels_total = total_sums 16 (level_in p) (dust_in p) (λ t. go t (is_settled p t))
    where
      go : (t : Bytes) (b : Bool)
          → total (tabulate 16 (λ l. cond b (dust_at t (settled p t (fresh_devices t)).signal l) 0)) ≡ cond b (count_below (λ i. is_dust (kind_of t i)) (rows t)) 0
      go t true =
          let signal = (settled p t (fresh_devices t)).signal in
          total_counts 16 (is_dust_at t signal) (λ i. is_dust (kind_of t i)) (rows t)
          (λ i l. total_test 16 (is_dust (kind_of t i)) (row signal i) (λ d. omega (arith, settled_capped p t (fresh_devices t) i l d)))
      go t false = total_none 16 0
