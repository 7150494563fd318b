-- The one law of settling: a relation between numbers that 0, 1, `max`, the cap and the loss of one keep, every round keeps.
-- Proved laws: nobody has to believe them, or read them to know what is promised. Assumes nothing.
use Rattle.std.specs.Prelude.{◌≡◌, Bool, true, false, cond}
use Rattle.std.proofs.Math.Logic.{by_cases}
use Prim.Native.Nat.{ℕ, zero, suc, ◌-◌, ◌≤◌, min, max}
use Rattle.std.proofs.Math.Decide.{dec_lt}
use Rattle.std.proofs.Common.{arith}
use Rattle.std.proofs.Math.ListN.{get_or-eq_default}
use Rattle.columns.specs.Column.{Column, row, tabulate}
use Rattle.columns.specs.Signal.{max_signal}
use Rattle.columns.proofs.Columns.{length_tabulate, row_tabulate}
use Rattle.network.specs.Levels.{top, arriving}
use Rattle.network.specs.Network.{Network, strong_of, weak_of, level, signals, on_map_of, empty_map, start, round, after}
use Rattle.network.specs.Compare.{Rel₃, AtEveryRow₃, States₃}

-- The relation R is kept: by no level and by the mark of the map, by `max`, by the cap, and by the loss of one, which takes Q to R.
pub record Kept (Q R : Rel₃) : Type 0 where
  pub none : R 0 0 0
  pub mark : R 1 1 1
  pub most : {a b c p q r : ℕ} → R a b c → R p q r → R (max a p) (max b q) (max c r)
  pub cap : {a b c : ℕ} → R a b c → R (min max_signal a) (min max_signal b) (min max_signal c)
  pub less : {a b c : ℕ} → Q a b c → R (a - 1) (b - 1) (c - 1)

-- past the end of a column there is no level
pub row_past : (n : ℕ) (f : ℕ → ℕ) (k : ℕ) → n ≤ k → row (tabulate n f) k ≡ 0
row_past n f k h = get_or-eq_default (tabulate n f) 0 (rw (length_tabulate n 0 f) h)

module _ {Q R : Rel₃} (d : Kept Q R) where
  -- columns by related rules
  pub tabulate_kept : (n : ℕ) {f g h : ℕ → ℕ} → ((i : ℕ) → R (f i) (g i) (h i)) → AtEveryRow₃ R (tabulate n f) (tabulate n g) (tabulate n h)
  tabulate_kept n {f} {g} {h} u =
      record {
        at =
            λ i.
            by_cases (dec_lt i n)
            (λ l. rw (row_tabulate n f i l, row_tabulate n g i l, row_tabulate n h i l) (u i))
            (λ l. let p : n ≤ i = omega arith in rw (row_past n f i p, row_past n g i p, row_past n h i p) d.none);
      }

  cond_kept : (t : Bool) {a b c p q r : ℕ} → R a b c → R p q r → R (cond t a p) (cond t b q) (cond t c r)
  cond_kept true u v = u
  cond_kept false u v = v

  top_kept : (n : ℕ) {f g h : ℕ → ℕ} → ((j : ℕ) → R (f j) (g j) (h j)) → R (top n f) (top n g) (top n h)
  unfolding top
  top_kept zero u = d.none
  top_kept (suc n) u = d.most (top_kept n u) (u n)

  arriving_kept : (n : ℕ) (edge : ℕ → ℕ → Bool) {f g h : ℕ → ℕ} → ((j : ℕ) → R (f j) (g j) (h j))
      → (i : ℕ) → R (arriving n edge f i) (arriving n edge g i) (arriving n edge h i)
  unfolding arriving
  arriving_kept n edge u i = top_kept n (λ j. cond_kept (edge j i) (u j) d.none)

module _ (N : Network) {Q R : Rel₃} (d : Kept Q R) {a b c : Column} (e : AtEveryRow₃ R a b c) where
  open N use {size, dust, emitted_to_strong, transmits, emitted_to_dust, strong_to_dust}

  pub signals_kept : {x y z : ℕ → ℕ} → ((i : ℕ) → R (x i) (y i) (z i)) → AtEveryRow₃ R (signals N a x) (signals N b y) (signals N c z)
  unfolding signals
  signals_kept u = tabulate_kept d size (λ i. cond_kept d (dust i) (u i) (e.at i))

  strong_of_kept : AtEveryRow₃ R (strong_of N a) (strong_of N b) (strong_of N c)
  unfolding strong_of
  strong_of_kept = tabulate_kept d size (arriving_kept d size emitted_to_strong e.at)

  pub level_kept : {s t u : Column} → AtEveryRow₃ Q s t u
      → (i : ℕ) → R (level N a (strong_of N a) s i) (level N b (strong_of N b) t i) (level N c (strong_of N c) u i)
  unfolding level
  level_kept q i =
      d.cap
      (d.most (arriving_kept d size transmits (λ j. d.less (q.at j)) i)
      (d.most (arriving_kept d size emitted_to_dust e.at i) (arriving_kept d size strong_to_dust strong_of_kept.at i)))

module _ (N : Network) {R : Rel₃} (d : Kept R R) {a b c : Column} (e : AtEveryRow₃ R a b c) where
  open N use {size, mapped, strong_to_weak, dust_to_weak}

  weak_of_kept : {s t u : Column} → AtEveryRow₃ R s t u → AtEveryRow₃ R (weak_of N (strong_of N a) s) (weak_of N (strong_of N b) t) (weak_of N (strong_of N c) u)
  unfolding weak_of
  weak_of_kept q =
      tabulate_kept d size
      (λ i. d.most (arriving_kept d size strong_to_weak (strong_of_kept N d e).at i) (arriving_kept d size dust_to_weak q.at i))

  empty_map_kept : AtEveryRow₃ R (empty_map N) (empty_map N) (empty_map N)
  unfolding empty_map
  empty_map_kept = tabulate_kept d size (λ i. d.none)

  on_map_of_kept : AtEveryRow₃ R (on_map_of N) (on_map_of N) (on_map_of N)
  unfolding on_map_of
  on_map_of_kept = tabulate_kept d size (λ i. cond_kept d (mapped i) d.mark d.none)

  -- at every round
  pub after_kept : (k : ℕ) → States₃ R (after N a k) (after N b k) (after N c k)
  unfolding after start round
  after_kept zero =
      record { signal = signals_kept N d e (λ i. d.none); on_map = empty_map_kept; weak = empty_map_kept; strong = empty_map_kept }
  after_kept (suc k) =
      record {
        signal = signals_kept N d e (level_kept N d e (after_kept k).signal);
        on_map = on_map_of_kept;
        weak = weak_of_kept (after_kept k).signal;
        strong = strong_of_kept N d e;
      }
