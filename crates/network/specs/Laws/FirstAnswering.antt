-- The first round that answers is found by trying one after the other.
-- Proved laws: nobody has to believe them, or read them to know what is promised. Assumes nothing.
use Rattle.std.specs.Prelude.{◌≡◌, Bool}
use Rattle.std.proofs.Math.Path.{refl}
use Rattle.std.proofs.Common.{sym, ◌∙◌, ⊎_elim, eq-or-lt_of_le, arith}
use Rattle.std.proofs.Math.Bool.{true, false}
use Rattle.std.proofs.lemmas.Bool.{false≢true}
use Prim.Native.Nat.{ℕ, zero, suc, ◌+◌, ◌≤◌, ◌<◌}
use Rattle.columns.specs.Column.{Column}
use Rattle.network.specs.Network.{Network, State, start, round, after, Answers, Rounds}
use Rattle.network.specs.Laws.States.{same_state, same-state, state_same}
use Rattle.network.specs.Laws.Settle.{seventeen}

module _ (N : Network) (e : Column) where
  -- no round up to 0 answers
  pub none_yet : (j : ℕ) → Answers N e j → 0 < j
  none_yet zero a = absurd a
  none_yet (suc j) a = omega arith

  -- nor up to k + 1, where none up to k does and k + 1 does not
  pub none_more : (k : ℕ) → ¬ Answers N e (suc k) → ((j : ℕ) → Answers N e j → k < j) → (j : ℕ) → Answers N e j → suc k < j
  none_more k n f j a = ⊎_elim (λ p. absurd (n (rw (← p) at a))) (λ h. h) (eq-or-lt_of_le (f j a))

  -- the first round to answer after the k rounds that left t, of at most l more
  unfoldable pub first_answering_from : ℕ → State → ℕ → ℕ
  first_answering_from zero t k = k
  first_answering_from (suc l) t k = let u = round N e t in elim (same_state u t) [ true ↦ suc k | false ↦ first_answering_from l u (suc k) ]

  -- it is found, where round m answers and l more rounds reach m
  seek_first : (l k m : ℕ) → Answers N e m → m ≤ l + k → ((j : ℕ) → Answers N e j → k < j) → Rounds N e (first_answering_from l (after N e k) k)
  unfolding after first_answering_from
  seek_first zero k m a h f = absurd (omega (arith, f m a))
  seek_first (suc l) k m a h f = go (same_state (after N e (suc k)) (after N e k)) refl (λ g. seek_first l (suc k) m a (omega arith) g)
    where
      go : (b : Bool) → same_state (after N e (suc k)) (after N e k) ≡ b
          → (((j : ℕ) → Answers N e j → suc k < j) → Rounds N e (first_answering_from l (after N e (suc k)) (suc k))) → Rounds N e (first_answering_from (suc l) (after N e k) k)
      go true p r = rw (first_answering_from, p) (record { answers = same-state _ _ p; least = f })
      go false p r = rw (first_answering_from, p) (r (none_more k (λ q. absurd (false≢true (sym p ∙ state_same _ _ q))) f))

  -- round 17 answers, so 17 rounds are enough
  unfoldable pub first_answering : ℕ
  first_answering = first_answering_from 17 (start N e) 0

  pub first_answering_first : Rounds N e first_answering
  unfolding first_answering after
  first_answering_first = seek_first 17 0 17 (seventeen N e) (omega arith) none_yet
