-- Laws of the rows that a list names, and of those that are left without them.
-- Assumes nothing.
use mathlib.Core.Path.{◌≡◌, refl, sym, ◌∙◌}
use mathlib.Core.Logic.{⊎_elim}
use mathlib.Core.Bool.{Bool, true, false, not, ◌&&◌, false≢true}
use mathlib.Core.List.{List, [], ◌∷◌}
use Prim.Native.Nat.{ℕ, zero, suc, ◌+◌, ◌<◌}
use native.Mathlib.Nat.{add-zero}
use native.Mathlib.Omega.{arith}
use lib.ListN.{length}
use lib.Dec.{eqb}
use borrow.Author.Tests.{eqb-true}
use Rattle.columns.specs.Column.{Bytes, Column, row}
use Rattle.columns.specs.First.{keep_if, indices_from}
use Rattle.columns.proofs.Truth.{or_true, refuted}
use Rattle.columns.proofs.Indices.{StandsIn, stands_later, index_kept, kept_index}
use Rattle.blocks.specs.Kind.{one_of}
use Rattle.world.specs.Rows.{rows}
use Rattle.supports.specs.Supports.{lacks_support, support_issues}
use Rattle.passes.specs.Passes.{unnamed_from}
use Rattle.passes.proofs.Laws.{row_one}

-- ---- which numbers a list has

-- one of a list stands in it
pub one_place : (xs : Column) (x : ℕ) → one_of xs x ≡ true → StandsIn xs x
one_place [] x h = absurd (false≢true h)
one_place (y ∷ xs) x h =
    ⊎_elim (λ e. record { at = 0; inside = omega arith; is = sym (eqb-true x y e) }) (λ later. stands_later y (one_place xs x later)) (or_true (eqb x y) (one_of xs x) h)

-- of the indices at which f holds it is one where f holds
pub one_index : (f : ℕ → Bool) (n x : ℕ) → x < n → one_of (indices_from f n 0) x ≡ f x
one_index f n x l = go (f x) refl
  where
    go : (b : Bool) → f x ≡ b → one_of (indices_from f n 0) x ≡ b
    go true e =
        let p = kept_index f n 0 x (record { from = omega arith; below = omega arith; holds = e }) in
        rw p.is at (row_one (indices_from f n 0) p.at p.inside)
    go false e =
        refuted (one_of (indices_from f n 0) x) λ h.
        let p = one_place (indices_from f n 0) x h in
        false≢true (sym e ∙ rw p.is at (index_kept f n 0 p.at p.inside).holds)

-- the support list names the rows that lack a support
pub named : (p t : Bytes) (i : ℕ) → i < rows t → one_of (support_issues p t) i ≡ lacks_support p t i
unfolding support_issues
named p t i l = one_index (lacks_support p t) (rows t) i l

-- ---- without those that are named

-- of the indices at which f holds, those that are not named are those at which g holds too
pub unnamed_indices : (names : List ℕ) (f g : ℕ → Bool) (k n i : ℕ)
    → ((j : ℕ) → j < length (indices_from f n i) → not (one_of names (k + j)) ≡ g (row (indices_from f n i) j))
    → unnamed_from names k (indices_from f n i) ≡ indices_from (λ x. f x && g x) n i
unfolding unnamed_from indices_from
unnamed_indices names f g k zero i h = refl
unnamed_indices names f g k (suc n) i h = go (f i) h (unnamed_indices names f g (k + 1) n (i + 1)) (unnamed_indices names f g k n (i + 1))
  where
    go : (b : Bool) → ((j : ℕ) → j < length (keep_if b i (indices_from f n (i + 1))) → not (one_of names (k + j)) ≡ g (row (keep_if b i (indices_from f n (i + 1))) j))
        → (((j : ℕ) → j < length (indices_from f n (i + 1)) → not (one_of names (k + 1 + j)) ≡ g (row (indices_from f n (i + 1)) j))
        → unnamed_from names (k + 1) (indices_from f n (i + 1)) ≡ indices_from (λ x. f x && g x) n (i + 1))
        → (((j : ℕ) → j < length (indices_from f n (i + 1)) → not (one_of names (k + j)) ≡ g (row (indices_from f n (i + 1)) j))
        → unnamed_from names k (indices_from f n (i + 1)) ≡ indices_from (λ x. f x && g x) n (i + 1))
        → unnamed_from names k (keep_if b i (indices_from f n (i + 1))) ≡ keep_if (b && g i) i (indices_from (λ x. f x && g x) n (i + 1))
    go true each later same =
        let own : not (one_of names k) ≡ g i = rw (add-zero k) at (each 0 (omega arith)) in
        rw (own, later (λ j l. let next : k + 1 + j ≡ k + suc j = omega arith in rw next (each (suc j) (omega arith)))) refl
    go false each later same = same each
