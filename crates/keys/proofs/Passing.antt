-- Laws of the pass over the keys.
-- Assumes nothing.
use mathlib.Core.Path.{◌≡◌, refl, ap, sym, ◌∙◌}
use mathlib.Core.Bool.{Bool, true, false, cond, true≢false}
use mathlib.Core.Logic.{by_cases}
use Prim.Native.Nat.{ℕ, ◌+◌, ◌-◌, ◌*◌, ◌≤◌, ◌<◌, min, max}
use native.Mathlib.Nat.{le_trans, le_antisymm, max-le, le-max_left}
use native.Mathlib.Decide.{dec_lt, ℕ_discrete}
use native.Mathlib.Omega.{arith}
use lib.ListN.{length, get_or-eq_default}
use lib.Dec.{ltb, leb}
use borrow.Author.Tests.{ltb-true, leb-true, lt-ltb, le-ltb, le-leb}
use Rattle.columns.specs.Column.{Column, row, tabulate}
use Rattle.columns.specs.Signal.{max_signal}
use Rattle.columns.proofs.Columns.{length_tabulate, row_tabulate}
use Rattle.columns.proofs.Truth.{and_true}
use Rattle.network.specs.Levels.{top, arriving}
use Rattle.network.specs.Laws.Gather.{le_top, top_least}
use Rattle.keys.specs.Pass.{own_keys, Given, floor_at, Passes, Kept}
use Rattle.keys.specs.Search.{is_within, Skipped}

-- ---- the keys of direct levels

pub length_own : (direct : Column) → length (own_keys direct) ≡ length direct
unfolding own_keys
length_own direct = length_tabulate (length direct) 0 _

pub own_low : (direct : Column) (i : ℕ) → row (own_keys direct) i ≤ 240
unfolding own_keys
own_low direct i =
    by_cases (dec_lt i (length direct))
    (λ l. rw (row_tabulate (length direct) (λ k. 16 * min max_signal (row direct k)) i l) (omega arith))
    (λ n. let none : row (own_keys direct) i ≡ 0 = get_or-eq_default (own_keys direct) 0 (omega (arith, length_own direct)) in omega arith)

-- ---- the pass

module _ (n : ℕ) (edge : ℕ → ℕ → Bool) where
  -- what arrives grows with what is sent
  arriving_le : (f g : ℕ → ℕ) (i : ℕ) → ((j : ℕ) → j < n → f j ≤ g j) → arriving n edge f i ≤ arriving n edge g i
  unfolding arriving
  arriving_le f g i h = top_least n _ _ (λ j l. le_trans (go j l (edge j i)) (le_top n (λ j. cond (edge j i) (g j) 0) j l))
    where
      go : (j : ℕ) → j < n → (b : Bool) → cond b (f j) 0 ≤ cond b (g j) 0
      go j l true = h j l
      go j l false = omega arith

  -- what row j sends along an edge arrives
  sent_arrives : (f : ℕ → ℕ) (j i : ℕ) → j < n → edge j i ≡ true → f j ≤ arriving n edge f i
  unfolding arriving
  sent_arrives f j i l e = let h : cond (edge j i) (f j) 0 ≤ top n (λ j. cond (edge j i) (f j) 0) = le_top n (λ j. cond (edge j i) (f j) 0) j l in rw e at h

  -- and nothing more than what is sent
  pub arriving_least : (f : ℕ → ℕ) (i m : ℕ) → ((j : ℕ) → j < n → edge j i ≡ true → f j ≤ m) → arriving n edge f i ≤ m
  unfolding arriving
  arriving_least f i m h = top_least n _ m (λ j l. go j l (edge j i) refl)
    where
      go : (j : ℕ) → j < n → (b : Bool) → edge j i ≡ b → cond b (f j) 0 ≤ m
      go j l true e = h j l e
      go j l false e = omega arith

  -- before the pass: every key is its row's own, at most 240
  pub given_start : (x : Column) → length x ≡ n → ((i : ℕ) → row x i ≤ 240) → Given n edge (row x) (λ _. 16 * 15) x
  given_start x sized low =
      record {
        sized = sized;
        low = low;
        least = λ i l. omega arith;
        most = λ i l. le-max_left (row x i) _;
        arrived = λ j i l m e h. absurd (omega (arith, low j));
      }

  module _ (own : ℕ → ℕ) where
    -- a stretch of rows of other levels is passed over
    module _ (level j k : ℕ) (x : Column) (order : j ≤ k) (off : (i : ℕ) → j ≤ i → i < k → ¬ ((16 * level - 16 < row x i) × (row x i ≤ 16 * level))) where
      floor_passed : (i : ℕ) → floor_at level k i < row x i → floor_at level j i < row x i
      floor_passed i h =
          by_cases (dec_lt i j)
          (λ l. rw (lt-ltb i j l) (rw (lt-ltb i k (omega arith)) at h))
          (λ m.
          rw (le-ltb i j (omega arith))
          (by_cases (dec_lt i k)
          (λ l.
          let low : 16 * level - 16 < row x i = rw (lt-ltb i k l) at h in
          let high : ¬ (row x i ≤ 16 * level) = λ le. off i (omega arith) l (low, le) in
          omega arith)
          (λ o. rw (le-ltb i k (omega arith)) at h)))

      pub given_skip : Given n edge own (floor_at level j) x → Given n edge own (floor_at level k) x
      given_skip g =
          record {
            sized = g.sized;
            low = g.low;
            least = g.least;
            most = g.most;
            arrived = λ a i l m e h. g.arrived a i l m e (floor_passed a h);
          }

    module _ (level j : ℕ) (x : Column) (g : Given n edge own (floor_at level j) x) (inside : j < n) where
      floor_other : (k : ℕ) → ¬ (k ≡ j) → floor_at level (j + 1) k ≡ floor_at level j k
      floor_other k d =
          by_cases (dec_lt k j)
          (λ l. rw (lt-ltb k j l, lt-ltb k (j + 1) (omega arith)))
          (λ m. rw (le-ltb k j (omega arith), le-ltb k (j + 1) (omega arith)))

      floor_least : (k : ℕ) → 16 * level - 16 ≤ floor_at level (j + 1) k
      floor_least k = go (ltb k (j + 1))
        where
          go : (b : Bool) → 16 * level - 16 ≤ cond b (16 * level - 16) (16 * level)
          go true = omega arith
          go false = omega arith

      -- a row of the level gives its key, less 17
      module _ (two : 2 ≤ level) (low : 16 * level - 16 < row x j) (high : row x j ≤ 16 * level) (y : Column)
          (is : y ≡ tabulate (length x) (λ i. max (row x i) (cond (edge j i) (row x j - 17) 0))) where
        row_is : (i : ℕ) → i < n → row y i ≡ max (row x i) (cond (edge j i) (row x j - 17) 0)
        row_is i l = ap (λ c. row c i) is ∙ row_tabulate (length x) _ i (rw g.sized l)

        -- a key is as it was, or it is what was given, which is of a lower level
        row_up : (i : ℕ) → i < n → row x i ≤ row y i
        row_up i l = rw (row_is i l) (le-max_left (row x i) _)

        row_same : (i : ℕ) → i < n → 16 * level - 16 < row y i → row y i ≡ row x i
        row_same i l h = go (edge j i) (row_is i l)
          where
            go : (b : Bool) → row y i ≡ max (row x i) (cond b (row x j - 17) 0) → row y i ≡ row x i
            go true q = omega arith
            go false q = omega arith

        more : (i : ℕ) → i < n → edge j i ≡ true → row x j - 17 ≤ row y i
        more i l e = let q : row y i ≡ max (row x i) (row x j - 17) = rw e at (row_is i l) in omega arith

        sized_is : length y ≡ n
        sized_is = ap length is ∙ length_tabulate (length x) 0 _ ∙ g.sized

        low_is : (i : ℕ) (b : Bool) → row y i ≡ max (row x i) (cond b (row x j - 17) 0) → row y i ≤ 240
        low_is i true q = omega (arith, g.low i, g.low j)
        low_is i false q = omega (arith, g.low i)

        pub given_pass : Given n edge own (floor_at level (j + 1)) y
        given_pass =
            record {
              sized = sized_is;
              low = λ i. by_cases (dec_lt i n) (λ l. low_is i (edge j i) (row_is i l)) (λ h. let none : row y i ≡ 0 = get_or-eq_default y 0 (omega (arith, sized_is)) in omega arith);
              least = λ i l. le_trans (g.least i l) (row_up i l);
              most = λ i l. at_most i l (edge j i) refl (row_is i l);
              arrived =
                  λ k i l m e h.
                  let same : row y k ≡ row x k = row_same k l (le_trans_lt (floor_least k) h) in
                  by_cases (ℕ_discrete k j)
                  (λ q. rw (same, q) (more i m (rw q at e)))
                  (λ d. rw same (le_trans (g.arrived k i l m e (rw (floor_other k d, same) at h)) (row_up i m)));
            }
          where
            le_trans_lt : {a b c : ℕ} → a ≤ b → b < c → a < c
            le_trans_lt p q = omega arith

            grown : (i : ℕ) → arriving n edge (λ k. row x k - 17) i ≤ arriving n edge (λ k. row y k - 17) i
            grown i = arriving_le (λ k. row x k - 17) (λ k. row y k - 17) i (λ k l. let u : row x k ≤ row y k = row_up k l in omega arith)

            at_most : (i : ℕ) → i < n → (b : Bool) → edge j i ≡ b → row y i ≡ max (row x i) (cond b (row x j - 17) 0)
                → row y i ≤ max (own i) (arriving n edge (λ k. row y k - 17) i)
            at_most i l true e q =
                let sent : row y j - 17 ≤ arriving n edge (λ k. row y k - 17) i = sent_arrives (λ k. row y k - 17) j i inside e in
                let up : row x j ≤ row y j = row_up j inside in
                omega (arith, g.most i l, grown i)
            at_most i l false e q = omega (arith, g.most i l, grown i)

    -- all rows of a level
    pub given_level : (level : ℕ) (x : Column) → Given n edge own (λ _. 16 * level) x → Given n edge own (floor_at level 0) x
    given_level level x g =
        record { sized = g.sized; low = g.low; least = g.least; most = g.most; arrived = λ k i l m e h. g.arrived k i l m e (rw (le-ltb k 0 (omega arith)) at h) }

    pub level_given : (level : ℕ) (x : Column) (j : ℕ) → n ≤ j → Given n edge own (floor_at level j) x → Given n edge own (λ _. 16 * level - 16) x
    level_given level x j h g =
        record {
          sized = g.sized;
          low = g.low;
          least = g.least;
          most = g.most;
          arrived = λ k i l m e f. g.arrived k i l m e (rw (lt-ltb k j (omega arith)) f);
        }

  -- after level 2: a key of level 1 gives nothing
  pub given_kept : (x y : Column) → Given n edge (row x) (λ _. 16) y → Kept n edge x y
  given_kept x y g =
      record {
        sized = g.sized;
        low = g.low;
        rule =
            λ i l.
            le_antisymm (g.most i l)
            (max-le (g.least i l)
            (arriving_least (λ j. row y j - 17) i (row y i)
            (λ j m e. by_cases (dec_lt 16 (row y j)) (λ h. g.arrived j i m l e h) (λ h. omega arith))));
      }

-- ---- one level, row by row

-- The bounds of the keys of a level. They are capped, as the key of a direct level is, and leave none out: no key is above that of level 15.
pub record Bounds (level low high : ℕ) : Type 0 where
  pub is_low : low ≡ 16 * min max_signal (level - 1)
  pub is_high : high ≡ 16 * min max_signal level

module _ {level low high : ℕ} (b : Bounds level low high) where
  -- a key between them is of the level, and no other is
  pub within_level : (x : ℕ) → is_within low high x ≡ true → (16 * level - 16 < x) × (x ≤ 16 * level)
  within_level x on =
      let (above, below) = and_true (ltb low x) (leb x high) on in
      let l : low < x = ltb-true low x above in
      let h : x ≤ high = leb-true x high below in
      (omega arith, omega arith)

  other_level : (x : ℕ) → x ≤ 240 → is_within low high x ≡ false → ¬ ((16 * level - 16 < x) × (x ≤ 16 * level))
  other_level x most off on =
      let (above, below) = on in
      let within : is_within low high x ≡ true = rw (lt-ltb low x (omega arith), le-leb x high (omega arith)) in
      true≢false (sym within ∙ off)

-- The rows before row j have been passed, which took the keys x to y.
pub record Passing (n : ℕ) (edge : ℕ → ℕ → Bool) (level : ℕ) (x : Column) (j : ℕ) (y : Column) : Type 0 where
  pub within : j ≤ n
  pub long : length y ≡ n
  pub given : (own : ℕ → ℕ) → Given n edge own (λ _. 16 * level) x → Given n edge own (floor_at level j) y

module _ {n : ℕ} {edge : ℕ → ℕ → Bool} {level : ℕ} {x : Column} where
  pub passing_none : length x ≡ n → Passing n edge level x 0 x
  passing_none h = record { within = omega arith; long = h; given = λ own g. given_level n edge own level x g }

  module _ {j : ℕ} {y : Column} (p : Passing n edge level x j y) where
    module _ {low high : ℕ} (b : Bounds level low high) where
      pub passing_skip : {k : ℕ} → Skipped y low high j k → Passing n edge level x k y
      passing_skip {k} s =
          record {
            within = omega (arith, s.inside, p.long);
            long = p.long;
            given =
                λ own g.
                let now = p.given own g in
                given_skip n edge own level j k y s.from (λ i l m. other_level b (row y i) (now.low i) (s.others i l m)) now;
          }

      pub passing_more : j < n → 2 ≤ level → is_within low high (row y j) ≡ true → {z : Column}
          → z ≡ tabulate (length y) (λ i. max (row y i) (cond (edge j i) (row y j - 17) 0)) → Passing n edge level x (j + 1) z
      passing_more l two on is =
          let (above, below) = within_level b (row y j) on in
          record {
            within = omega arith;
            long = ap length is ∙ length_tabulate (length y) 0 _ ∙ p.long;
            given = λ own g. given_pass n edge own level j y (p.given own g) l two above below _ is;
          }

    pub passing_all : n ≤ j → Passes n edge level x y
    passing_all h = record { next = λ own g. level_given n edge own level y j h (p.given own g) }
