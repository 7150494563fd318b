-- Laws: two networks with the same edges between their rows settle alike, whatever is emitted.
-- They are proved: nobody has to believe them, or read them to know what is promised. Assumes nothing.
use Rattle.std.specs.Prelude.{◌≡◌, refl, Bool, cond}
use Rattle.std.proofs.Math.Path.{ap}
use Rattle.std.proofs.Common.{sym, ◌∙◌}
use Prim.Native.Nat.{ℕ, zero, suc, ◌-◌, ◌<◌}
use Rattle.columns.specs.Column.{Column, row, tabulate}
use Rattle.columns.proofs.Columns.{same_rule}
use Rattle.network.specs.Levels.{arriving}
use Rattle.network.specs.Network.{Network, strong_of, weak_of, level, signals, on_map_of, empty_map, start, round, after, Answers}
use Rattle.network.specs.Settled.{rounds_of, settled}
use Rattle.network.specs.Demand.{rounds_first, rounds_are}
use Rattle.network.specs.Laws.Top.{top_same}

-- The networks have as many rows, of which the same are dust and the same stand on the map, and the same edges between them.
pub record SameEdges (N M : Network) : Type 0 where
  pub size : N.size ≡ M.size
  pub dust : (i : ℕ) → i < N.size → N.dust i ≡ M.dust i
  pub mapped : (i : ℕ) → i < N.size → N.mapped i ≡ M.mapped i
  pub emitted_to_strong : (j i : ℕ) → j < N.size → i < N.size → N.emitted_to_strong j i ≡ M.emitted_to_strong j i
  pub strong_to_weak : (j i : ℕ) → j < N.size → i < N.size → N.strong_to_weak j i ≡ M.strong_to_weak j i
  pub dust_to_weak : (j i : ℕ) → j < N.size → i < N.size → N.dust_to_weak j i ≡ M.dust_to_weak j i
  pub transmits : (j i : ℕ) → j < N.size → i < N.size → N.transmits j i ≡ M.transmits j i
  pub emitted_to_dust : (j i : ℕ) → j < N.size → i < N.size → N.emitted_to_dust j i ≡ M.emitted_to_dust j i
  pub strong_to_dust : (j i : ℕ) → j < N.size → i < N.size → N.strong_to_dust j i ≡ M.strong_to_dust j i

-- what arrives at row i of n, by either edges
arriving_same : (n m : ℕ) → n ≡ m → (a b : ℕ → ℕ → Bool) (f : ℕ → ℕ) (i : ℕ) → ((j : ℕ) → j < n → a j i ≡ b j i) → arriving n a f i ≡ arriving m b f i
unfolding arriving
arriving_same n m q a b f i h =
    top_same n _ _ (λ j l. ap (λ x. cond x (f j) 0) (h j l)) ∙ ap (λ k. arriving k b f i) q

tabulate_same : (n m : ℕ) → n ≡ m → (f g : ℕ → ℕ) → ((i : ℕ) → i < n → f i ≡ g i) → tabulate n f ≡ tabulate m g
tabulate_same n m q f g h = same_rule n f g h ∙ ap (λ k. tabulate k g) q

module _ {N M : Network} (s : SameEdges N M) (e : Column) where
  strong_same : strong_of N e ≡ strong_of M e
  unfolding strong_of
  strong_same =
      tabulate_same _ _ s.size _ _
      (λ i l. arriving_same _ _ s.size N.emitted_to_strong M.emitted_to_strong (row e) i (λ j h. s.emitted_to_strong j i h l))

  weak_same : (g x : Column) → weak_of N g x ≡ weak_of M g x
  unfolding weak_of
  weak_same g x =
      tabulate_same _ _ s.size _ _
      (λ i l.
      rw (
        arriving_same _ _ s.size N.strong_to_weak M.strong_to_weak (row g) i (λ j h. s.strong_to_weak j i h l),
        arriving_same _ _ s.size N.dust_to_weak M.dust_to_weak (row x) i (λ j h. s.dust_to_weak j i h l),
      ))

  level_same : (g x : Column) (i : ℕ) → i < N.size → level N e g x i ≡ level M e g x i
  unfolding level
  level_same g x i l =
      rw (
        arriving_same _ _ s.size N.transmits M.transmits (λ j. row x j - 1) i (λ j h. s.transmits j i h l),
        arriving_same _ _ s.size N.emitted_to_dust M.emitted_to_dust (row e) i (λ j h. s.emitted_to_dust j i h l),
        arriving_same _ _ s.size N.strong_to_dust M.strong_to_dust (row g) i (λ j h. s.strong_to_dust j i h l),
      )

  signals_same : (x y : ℕ → ℕ) → ((i : ℕ) → i < N.size → x i ≡ y i) → signals N e x ≡ signals M e y
  unfolding signals
  signals_same x y h = tabulate_same _ _ s.size _ _ (λ i l. rw (s.dust i l, h i l))

  map_same : on_map_of N ≡ on_map_of M
  unfolding on_map_of
  map_same = tabulate_same _ _ s.size _ _ (λ i l. rw (s.mapped i l))

  empty_same : empty_map N ≡ empty_map M
  unfolding empty_map
  empty_same = tabulate_same _ _ s.size _ _ (λ i l. refl)

  pub after_same : (k : ℕ) → after N e k ≡ after M e k
  unfolding after start round
  after_same zero = λ x. record { signal = signals_same (λ i. 0) (λ i. 0) (λ i l. refl) x; on_map = empty_same x; weak = empty_same x; strong = empty_same x }
  after_same (suc k) = next k (after_same k)
    where
      next : (k : ℕ) → after N e k ≡ after M e k → round N e (after N e k) ≡ round M e (after M e k)
      next k p =
          λ x. record {
            signal =
                (signals_same _ _ (λ i l. level_same (strong_of N e) (after N e k).signal i l)
                ∙ (λ y. signals M e (level M e (strong_same y) (p y).signal)))
                x;
            on_map = map_same x;
            weak = (weak_same (strong_of N e) (after N e k).signal ∙ (λ y. weak_of M (strong_same y) (p y).signal)) x;
            strong = strong_same x;
          }

  answers_same : (k : ℕ) → Answers N e k → Answers M e k
  answers_same zero a = a
  answers_same (suc k) a = sym (after_same (suc k)) ∙ a ∙ after_same k

  answers_back : (k : ℕ) → Answers M e k → Answers N e k
  answers_back zero a = a
  answers_back (suc k) a = after_same (suc k) ∙ a ∙ sym (after_same k)

  -- as many rounds,
  pub rounds_same : rounds_of N e ≡ rounds_of M e
  rounds_same =
      rounds_are N e
      (record { answers = answers_back (rounds_of M e) (rounds_first M e).answers; least = λ j a. (rounds_first M e).least j (answers_same j a) })

  -- and the same numbers
  pub settled_same : settled N e ≡ settled M e
  unfolding settled
  settled_same = after_same (rounds_of N e) ∙ ap (after M e) rounds_same
