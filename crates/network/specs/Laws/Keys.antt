-- The keys of the dust: 16 times the level less the hops by which it comes. A column that the rule for keys gives back holds the settled levels and
-- the round in which each arrives.
-- Of the definitions here, `level_of` and `round_of` stand in contracts of inner functions; no call of the editor speaks of them. The rest are proved laws:
-- nobody has to believe them, or read them to know what is promised. Assumes nothing.
use Rattle.std.specs.Prelude.{◌≡◌, Bool, ◌||◌, length}
use Rattle.std.proofs.Math.Path.{refl, ap, sym}
use Rattle.std.proofs.Common.{◌∙◌, le_refl, le_trans}
use Rattle.std.proofs.Math.Bool.{true, false, cond}
use Rattle.std.proofs.lemmas.Bool.{false≢true}
use Rattle.std.proofs.Math.Logic.{by_cases}
use Prim.Native.Nat.{ℕ, zero, suc, ◌+◌, ◌*◌, ◌-◌, ◌/◌, ◌≤◌, ◌<◌, min, max}
use Rattle.std.proofs.Math.Nat.{max-eq_left, max-eq_right, min-le_left}
use Rattle.std.proofs.Math.Decide.{dec_le, dec_lt}
use native.Mathlib.Omega.{arith}
use Rattle.std.proofs.Math.Dec.{ltb}
use borrow.Author.Tests.{lt-ltb, ltb-true, ltb-false}
use Rattle.columns.specs.Column.{Column, row, tabulate}
use Rattle.columns.specs.Signal.{max_signal}
use Rattle.columns.proofs.Columns.{length_tabulate, row_tabulate, same_rule, is_tabulate}
use Rattle.network.specs.Levels.{top, arriving}
use Rattle.network.specs.Network.{Network, strong_of, weak_of, level, signals, start, round, after, Answers}
use Rattle.network.specs.Settled.{rounds_of, settled}
use Rattle.network.specs.Compare.{PowerOnMap}
use Rattle.network.specs.Demand.{rounds_are, answers_later}
use Rattle.network.specs.Laws.Gather.{le_top, top_least}
use Rattle.network.specs.Laws.Settle.{seventeen}
use Rattle.network.specs.Laws.Loop.{unmapped, weak_unmapped, answers_when, answers_map}

-- the level in a key
abbrev pub level_of : ℕ → ℕ
level_of x = (x + 15) / 16

-- After k rounds a row with the key x has the level y: no more than fits the rounds, and all of it once its hops are fewer than k. Level and hops
-- together are at most 15.
pub record Arrives (k x y : ℕ) : Type 0 where
  pub up : 16 * y ≤ x + k - 1
  pub down : level_of x ≤ y + 15 * (1 - ((x + k) - 16 * level_of x))
  pub fits : 17 * level_of x ≤ x + 15

pub arrives_none : (k : ℕ) → Arrives k 0 0
arrives_none k = omega arith

pub arrives_start : (x : ℕ) → 17 * level_of x ≤ x + 15 → Arrives 0 x 0
arrives_start x h = omega arith

pub arrives_own : (k d : ℕ) → d ≤ 15 → Arrives (suc k) (16 * d) d
arrives_own k d h = omega arith

-- one hop more
less_down : (k w y : ℕ) → 1 ≤ w → 17 * level_of (w + 17) ≤ w + 17 + 15 → level_of (w + 17) ≤ suc y + 15 * (1 - ((w + 17 + k) - 16 * level_of (w + 17)))
    → level_of w ≤ y + 15 * (1 - ((w + suc k) - 16 * level_of w))
less_down k w y l f h = omega arith

pub arrives_less : (k x y : ℕ) → Arrives k x y → Arrives (suc k) (x - 17) (y - 1)
arrives_less k x y h = by_cases (dec_le x 17) low high
  where
    low : x ≤ 17 → Arrives (suc k) (x - 17) (y - 1)
    low l = let e : x - 17 ≡ 0 = omega arith in rw e (record { up = omega (arith, h.up); down = omega arith; fits = omega arith })

    high : ¬ (x ≤ 17) → Arrives (suc k) (x - 17) (y - 1)
    high n = go (x - 17) (omega arith) (omega arith)
      where
        go : (w : ℕ) → x ≡ w + 17 → 1 ≤ w → Arrives (suc k) w (y - 1)
        go w e l =
            let f : 17 * level_of (w + 17) ≤ w + 17 + 15 = rw e at h.fits in
            let d : level_of (w + 17) ≤ y + 15 * (1 - ((w + 17 + k) - 16 * level_of (w + 17))) = rw e at h.down in
            let u : 16 * y ≤ w + 17 + k - 1 = rw e at h.up in
            record { up = omega (arith, u); down = less_down k w (y - 1) l f (omega (arith, d)); fits = omega (arith, f) }

pub arrives_capped : (k x y : ℕ) → Arrives k x y → Arrives k x (min 15 y)
arrives_capped k x y h = omega arith

pub arrives_most : (k a p b q : ℕ) → Arrives k a p → Arrives k b q → Arrives k (max a b) (max p q)
arrives_most k a p b q g h =
    by_cases (dec_le a b)
    (λ l. rw (max-eq_right l) (record { up = omega (arith, h.up, g.up); down = omega (arith, h.down); fits = h.fits }))
    (λ n. let l : b ≤ a = omega arith in rw (max-eq_left l) (record { up = omega (arith, h.up, g.up); down = omega (arith, g.down); fits = g.fits }))

-- ---- what arrives of two columns, related along every edge

module _ (P : ℕ → ℕ → Type 0) (none : P 0 0) (most : (a p b q : ℕ) → P a p → P b q → P (max a b) (max p q)) where
  top_both : (n : ℕ) (f g : ℕ → ℕ) → ((j : ℕ) → j < n → P (f j) (g j)) → P (top n f) (top n g)
  unfolding top
  top_both zero f g u = none
  top_both (suc n) f g u = most _ _ _ _ (top_both n f g (λ j l. u j (omega arith))) (u n (le_refl _))

  arriving_both : (n : ℕ) (edge : ℕ → ℕ → Bool) (f g : ℕ → ℕ) (i : ℕ) → ((j : ℕ) → j < n → edge j i ≡ true → P (f j) (g j))
      → P (arriving n edge f i) (arriving n edge g i)
  unfolding arriving
  arriving_both n edge f g i u = top_both n _ _ (λ j l. go j l (edge j i) refl)
    where
      go : (j : ℕ) → j < n → (b : Bool) → edge j i ≡ b → P (cond b (f j) 0) (cond b (g j) 0)
      go j l true q = u j l q
      go j l false q = none

-- ---- level and hops together, of a key that is a byte: at most 15 where the key and m come to 256

record Fits (m x : ℕ) : Type 0 where
  fits : 17 * level_of x ≤ x + 15 + 300 * (256 - (x + m))

fits_none : (m : ℕ) → Fits m 0
fits_none m = omega arith

fits_byte : (x : ℕ) → x ≤ 255 → Fits 0 x
fits_byte x h = omega arith

fits_own : (m d : ℕ) → d ≤ 15 → Fits m (16 * d)
fits_own m d h = omega arith

fits_less : (m x : ℕ) → Fits m x → Fits (suc m) (x - 17)
fits_less m x h =
    by_cases (dec_le x 17)
    (λ l. let e : x - 17 ≡ 0 = omega arith in rw e (fits_none (suc m)))
    (λ n. omega (arith, h.fits))

fits_most : (m a p b q : ℕ) → Fits m a → Fits m b → Fits m (max a b)
fits_most m a p b q g h =
    by_cases (dec_le a b)
    (λ l. rw (max-eq_right l) h)
    (λ n. let l : b ≤ a = omega arith in rw (max-eq_left l) g)

fits_all : (x : ℕ) → Fits 256 x → 17 * level_of x ≤ x + 15
fits_all x h = omega (arith, h.fits)

-- ---- the keys of a network

-- only dust transmits, and only dust gives weak power by its level
pub record OnDust (N : Network) : Type 0 where
  pub transmits : (j i : ℕ) → N.transmits j i ≡ true → N.dust j ≡ true
  pub dust_to_weak : (j i : ℕ) → N.dust_to_weak j i ≡ true → N.dust j ≡ true

module _ (N : Network) (e : Column) where
  open N use {size, dust, strong_to_weak, dust_to_weak, transmits, emitted_to_dust, strong_to_dust}

  -- the direct level, capped
  abbrev pub own : ℕ → ℕ
  own i = min max_signal (max (arriving size emitted_to_dust (row e) i) (arriving size strong_to_dust (row (strong_of N e)) i))

  -- a column of bytes that the rule for keys gives back: 16 times the direct level, or the largest key that transmits less 17; 0 where no dust is
  pub record Keys (x : Column) : Type 0 where
    pub byte : (i : ℕ) → row x i ≤ 255
    pub rule : (i : ℕ) → i < size → dust i ≡ true → row x i ≡ max (16 * own i) (arriving size transmits (λ j. row x j - 17) i)
    pub bare : (i : ℕ) → i < size → dust i ≡ false → row x i ≡ 0

module _ (N : Network) (o : OnDust N) (e x : Column) (h : Keys N e x) where
  open N use {size, dust, strong_to_weak, dust_to_weak, transmits, emitted_to_dust, strong_to_dust}

  fits_by : (m i : ℕ) → i < size → dust i ≡ true → Fits m (row x i)
  fits_by zero i l d = fits_byte _ (h.byte i)
  fits_by (suc m) i l d =
      rw (h.rule i l d)
      (fits_most (suc m) _ 0 _ 0 (fits_own (suc m) _ (min-le_left max_signal _))
      (arriving_both (λ a b. Fits (suc m) a) (fits_none (suc m)) (fits_most (suc m)) size transmits (λ j. row x j - 17) (λ j. 0) i
      (λ j k t. fits_less m _ (fits_by m j k (o.transmits j i t)))))

  fits_at : (i : ℕ) → i < size → dust i ≡ true → 17 * level_of (row x i) ≤ row x i + 15
  fits_at i l d = fits_all _ (fits_by 256 i l d)

  row_dust : (y : ℕ → ℕ) (i : ℕ) → i < size → dust i ≡ true → row (signals N e y) i ≡ y i
  unfolding signals
  row_dust y i l d = row_tabulate size _ i l ∙ ap (λ t. cond t (y i) (row e i)) d

  -- after k rounds
  arrives : (k i : ℕ) → i < size → dust i ≡ true → Arrives k (row x i) (row (after N e k).signal i)
  unfolding after start round level
  arrives zero i l d = rw (row_dust (λ i. 0) i l d) (arrives_start _ (fits_at i l d))
  arrives (suc k) i l d = rw (row_dust (level N e (strong_of N e) (after N e k).signal) i l d, h.rule i l d) (split _ _ _ (both (arrives k)))
    where
      t : ℕ
      t = arriving size transmits (λ j. row (after N e k).signal j - 1) i

      split : (c a b : ℕ) → Arrives (suc k) c (max (min 15 b) (min 15 a)) → Arrives (suc k) c (min 15 (max a b))
      split c a b r = let q : min 15 (max a b) ≡ max (min 15 b) (min 15 a) = omega arith in rw q r

      both : ((j : ℕ) → j < size → dust j ≡ true → Arrives k (row x j) (row (after N e k).signal j))
          → Arrives (suc k) (max (16 * own N e i) (arriving size transmits (λ j. row x j - 17) i)) (max (own N e i) (min 15 t))
      both last =
          arrives_most (suc k) _ _ _ _ (arrives_own k (own N e i) (min-le_left max_signal _))
          (arrives_capped (suc k) _ _
          (arriving_both (Arrives (suc k)) (arrives_none (suc k)) (arrives_most (suc k)) size transmits _ _ i
          (λ j m q. arrives_less k _ _ (last j m (o.transmits j i q)))))

-- ---- the round in which a level arrives: 0 where there is none

abbrev pub round_of : ℕ → ℕ
round_of zero = 0
round_of (suc x) = 16 * level_of (suc x) + 1 - suc x

-- such a round is at most 15
round_low : (x : ℕ) → 17 * level_of x ≤ x + 15 → round_of x ≤ 15
round_low zero f = omega arith
round_low (suc x) f = omega arith

-- from that round on the level is there, up to round 16,
there : (k x y : ℕ) → Arrives k x y → k ≤ 16 → round_of x ≤ k → y ≡ level_of x
there k zero y a l r = omega (arith, a.up)
there k (suc x) y a l r = omega (arith, a.up, a.down, a.fits)

-- and before it the level is lower
lower : (k x y : ℕ) → Arrives k x y → k < round_of x → y < level_of x
lower k zero y a r = absurd (omega arith)
lower k (suc x) y a r = omega (arith, a.up)

-- no level is above
below : (k x y : ℕ) → Arrives k x y → k ≤ 16 → y ≤ level_of x
below k x y a l = omega (arith, a.up)

-- ---- the settled columns and the number of rounds, by the keys

module _ (N : Network) (e x : Column) where
  open N use {size, strong_to_weak, dust_to_weak}

  -- weak power from strong power
  abbrev pub base : ℕ → ℕ
  base i = arriving size strong_to_weak (row (strong_of N e)) i

  -- the largest key of the dust that gives row i weak power
  abbrev pub under_key : ℕ → ℕ
  under_key i = arriving size dust_to_weak (row x) i

  -- the last round in which some dust's level arrives
  unfoldable pub last_dust : ℕ
  last_dust = top size (λ i. round_of (row x i))

  -- the round of dust on which the weak power of row i depends, 0 where on none
  abbrev pub weak_round : ℕ → ℕ
  weak_round i = cond (ltb (base i) (level_of (under_key i))) (round_of (under_key i)) 0

  unfoldable pub last_weak : ℕ
  last_weak = top size weak_round

  -- one more than the last round of dust; and two more than the last on which weak power depends, where the map has any row
  unfoldable pub rounds_by : ℕ
  rounds_by = max (last_dust + 1) (cond (unmapped N) 0 (last_weak + 2))

module _ (N : Network) (o : OnDust N) (m : PowerOnMap N) (e x : Column) (h : Keys N e x) where
  open N use {size, dust, dust_to_weak}

  -- ---- dust

  dust_low : (i : ℕ) → i < size → round_of (row x i) ≤ 15
  dust_low i l = go (dust i) refl
    where
      go : (b : Bool) → dust i ≡ b → round_of (row x i) ≤ 15
      go true d = round_low _ (fits_at N o e x h i l d)
      go false d = rw (h.bare i l d) (omega arith)

  last_dust_low : last_dust N e x ≤ 15
  unfolding last_dust
  last_dust_low = top_least size _ 15 dust_low

  sized : (k : ℕ) → length (after N e k).signal ≡ size
  unfolding after start round signals
  sized zero = length_tabulate size 0 _
  sized (suc k) = length_tabulate size 0 _

  bare_row : (k i : ℕ) → i < size → dust i ≡ false → row (after N e k).signal i ≡ row e i
  unfolding after start round signals
  bare_row zero i m d = row_tabulate size _ i m ∙ rw d
  bare_row (suc k) i m d = row_tabulate size _ i m ∙ rw d

  signal_is : (k : ℕ) → last_dust N e x ≤ k → k ≤ 16 → (after N e k).signal ≡ signals N e (λ i. level_of (row x i))
  unfolding signals last_dust
  signal_is k s l = is_tabulate (after N e k).signal size _ (sized k) (λ i m. go i m (dust i) refl)
    where
      go : (i : ℕ) → i < size → (b : Bool) → dust i ≡ b → row (after N e k).signal i ≡ cond (dust i) (level_of (row x i)) (row e i)
      go i m true d = rw d (there k _ _ (arrives N o e x h k i m d) l (le_trans (le_top size (λ i. round_of (row x i)) i m) s))
      go i m false d = rw d (bare_row k i m d)

  -- ---- weak power

  under_arrives : (k i : ℕ) → Arrives k (under_key N e x i) (arriving size dust_to_weak (row (after N e k).signal) i)
  under_arrives k i =
      arriving_both (Arrives k) (arrives_none k) (arrives_most k) size dust_to_weak _ _ i (λ j l q. arrives N o e x h k j l (o.dust_to_weak j i q))

  weak_low : (i : ℕ) → weak_round N e x i ≤ 15
  weak_low i = go (ltb (base N e x i) (level_of (under_key N e x i)))
    where
      go : (b : Bool) → cond b (round_of (under_key N e x i)) 0 ≤ 15
      go true = round_low _ (under_arrives 0 i).fits
      go false = omega arith

  last_weak_low : last_weak N e x ≤ 15
  unfolding last_weak
  last_weak_low = top_least size _ 15 (λ i _. weak_low i)

  -- the weak power of row i, of the levels after k rounds
  weak_at : (k i : ℕ) → i < size → last_weak N e x ≤ k → k ≤ 16
      → max (base N e x i) (arriving size dust_to_weak (row (after N e k).signal) i) ≡ max (base N e x i) (level_of (under_key N e x i))
  unfolding last_weak
  weak_at k i l s m = go (ltb (base N e x i) (level_of (under_key N e x i))) refl (le_trans (le_top size (weak_round N e x) i l) s)
    where
      go : (b : Bool) → ltb (base N e x i) (level_of (under_key N e x i)) ≡ b → cond b (round_of (under_key N e x i)) 0 ≤ k
          → max (base N e x i) (arriving size dust_to_weak (row (after N e k).signal) i) ≡ max (base N e x i) (level_of (under_key N e x i))
      go true p r = ap (max (base N e x i)) (there k _ _ (under_arrives k i) m r)
      go false p r = omega (arith, below k _ _ (under_arrives k i) m, ltb-false (base N e x i) (level_of (under_key N e x i)) p)

  weak_is : (k : ℕ) → last_weak N e x ≤ k → k ≤ 16
      → weak_of N (strong_of N e) (after N e k).signal ≡ tabulate size (λ i. max (base N e x i) (level_of (under_key N e x i)))
  unfolding weak_of
  weak_is k s l = same_rule size _ _ (λ i m. weak_at k i m s l)

  -- ---- the settled columns

  settled_17 : settled N e ≡ after N e 17
  settled_17 = sym (answers_later N e 17 17 (seventeen N e) (le_refl 17)).1

  settled_16 : settled N e ≡ after N e 16
  settled_16 = settled_17 ∙ seventeen N e

  pub settled_signal : (settled N e).signal ≡ signals N e (λ i. level_of (row x i))
  settled_signal = ap (λ t. t.signal) settled_16 ∙ signal_is 16 (omega (arith, last_dust_low)) (le_refl 16)

  pub settled_weak : (settled N e).weak ≡ tabulate size (λ i. max (base N e x i) (level_of (under_key N e x i)))
  unfolding after round
  settled_weak = ap (λ t. t.weak) settled_17 ∙ weak_is 16 (omega (arith, last_weak_low)) (le_refl 16)

  -- ---- the number of rounds

  -- what the map asks of round k + 1
  map_by : (k : ℕ) → (cond (unmapped N) 0 (last_weak N e x + 2)) ≤ suc k → (ltb 0 k || unmapped N) ≡ true
  map_by zero w = by (unmapped N) refl w
    where
      by : (b : Bool) → unmapped N ≡ b → (cond b 0 (last_weak N e x + 2)) ≤ 1 → (false || unmapped N) ≡ true
      by true p w = p
      by false p w = absurd (omega arith)
  map_by (suc k) w = rw (lt-ltb 0 (suc k) (omega arith))

  weak-by : (k : ℕ) → k < 16 → (b : Bool) → unmapped N ≡ b → (cond b 0 (last_weak N e x + 2)) ≤ suc k → (after N e (suc k)).weak ≡ (after N e k).weak
  unfolding after start round
  weak-by zero l true p w = weak_unmapped N m e p _ _
  weak-by (suc k) l true p w = weak_unmapped N m e p _ _ ∙ sym (weak_unmapped N m e p _ _)
  weak-by zero l false p w = absurd (omega arith)
  weak-by (suc k) l false p w = weak_is (suc k) (omega arith) (omega arith) ∙ sym (weak_is k (omega arith) (omega arith))

  -- round k + 1 answers, where k is not before the last dust and weak power
  answers_by : (k : ℕ) → k < 16 → last_dust N e x ≤ k → (cond (unmapped N) 0 (last_weak N e x + 2)) ≤ suc k → Answers N e (suc k)
  answers_by k l s w =
      answers_when N m e k (signal_is (suc k) (omega arith) (omega arith) ∙ sym (signal_is k s (omega arith))) (weak-by k l (unmapped N) refl w) (map_by k w)

  -- a round that answers leaves the settled numbers, and so does the one before it
  before_settled : (k : ℕ) → Answers N e (suc k) → after N e k ≡ settled N e
  before_settled k a = sym a ∙ (answers_later N e (suc k) (suc k) a (le_refl _)).1

  -- it is past the last dust,
  dust_by : (k : ℕ) → Answers N e (suc k) → last_dust N e x ≤ k
  unfolding last_dust
  dust_by k a = top_least size _ k (λ i l. by_cases (dec_le (round_of (row x i)) k) (λ r. r) (λ n. absurd (go i l (omega arith) (dust i) refl)))
    where
      go : (i : ℕ) → i < size → k < round_of (row x i) → (b : Bool) → dust i ≡ b → ⊥
      go i l r true d =
          let low : row (after N e k).signal i < level_of (row x i) = lower k _ _ (arrives N o e x h k i l d) r in
          let is : row (after N e k).signal i ≡ level_of (row x i) =
          ap (λ t. row t.signal i) (before_settled k a) ∙ ap (λ s. row s i) settled_signal ∙ row_dust N o e x h _ i l d in
          omega (arith, low, is)
      go i l r false d = let z : round_of (row x i) ≡ 0 = ap round_of (h.bare i l d) in omega (arith, z, r)

  -- and, where the map has any row, past the round after the last weak power
  weak_past : (k : ℕ) → Answers N e (suc (suc k)) → last_weak N e x ≤ k
  unfolding last_weak after round weak_of
  weak_past k a = top_least size _ k (λ i l. go i l (ltb (base N e x i) (level_of (under_key N e x i))) refl)
    where
      go : (i : ℕ) → i < size → (b : Bool) → ltb (base N e x i) (level_of (under_key N e x i)) ≡ b → cond b (round_of (under_key N e x i)) 0 ≤ k
      go i l true p =
          by_cases (dec_le (round_of (under_key N e x i)) k) (λ r. r)
          (λ n.
          let low : arriving size dust_to_weak (row (after N e k).signal) i < level_of (under_key N e x i) = lower k _ _ (under_arrives k i) (omega arith) in
          let up : base N e x i < level_of (under_key N e x i) = ltb-true _ _ p in
          let is : max (base N e x i) (arriving size dust_to_weak (row (after N e k).signal) i) ≡ max (base N e x i) (level_of (under_key N e x i)) =
          sym (row_tabulate size _ i l) ∙ ap (λ t. row t.weak i) (before_settled (suc k) a) ∙ ap (λ s. row s i) settled_weak ∙ row_tabulate size _ i l in
          absurd (omega (arith, low, up, is)))
      go i l false p = omega arith

  map_past : (k : ℕ) → Answers N e (suc k) → (b : Bool) → unmapped N ≡ b → (cond b 0 (last_weak N e x + 2)) ≤ suc k
  map_past k a true p = omega arith
  map_past zero a false p = absurd (false≢true (sym p ∙ answers_map N m e 0 a))
  map_past (suc k) a false p = omega (arith, weak_past k a)

  -- The number of rounds is the one by the keys.
  pub keys_rounds : rounds_of N e ≡ rounds_by N e x
  unfolding rounds_by
  keys_rounds = rounds_are N e (record { answers = first; least = least })
    where
      last : ℕ
      last = cond (unmapped N) 0 (last_weak N e x + 2)

      least : (j : ℕ) → Answers N e j → max (last_dust N e x + 1) last ≤ j
      least zero a = absurd a
      least (suc k) a = omega (arith, dust_by k a, map_past k a (unmapped N) refl)

      small : (b : Bool) → (cond b 0 (last_weak N e x + 2)) ≤ 17
      small true = omega arith
      small false = omega (arith, last_weak_low)

      at : (r k : ℕ) → r ≡ suc k → max (last_dust N e x + 1) last ≡ r → Answers N e r
      at r k p q =
          by_cases (dec_lt k 16)
          (λ l. rw p (answers_by k l (omega arith) (omega arith)))
          (λ n. let s : r ≡ 17 = omega (arith, small (unmapped N), last_dust_low) in rw s (seventeen N e))

      first : Answers N e (max (last_dust N e x + 1) last)
      first = at (max (last_dust N e x + 1) last) (max (last_dust N e x + 1) last - 1) (omega arith) refl
