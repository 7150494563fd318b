-- Law: the map of a network in columns is empty where no class receives power.
-- Assumes nothing.
use mathlib.Core.Path.{◌≡◌, refl, sym, ◌∙◌}
use mathlib.Core.Bool.{Bool, true, false, not, ◌||◌, false≢true}
use Prim.Native.Nat.{ℕ}
use lib.ListN.{length}
use Rattle.columns.specs.Column.{Column, row}
use Rattle.columns.proofs.First.{all_at, at_all}
use Rattle.columns.proofs.Truth.{refuted}
use Rattle.network.specs.Laws.Loop.{unmapped, unmapped_true, unmapped_false}
use Rattle.classes.specs.Class.{weak_in, strong_in}
use Rattle.circuit.specs.Circuit.{circuit}
use Rattle.power.specs.Power.{none_mapped}

not_true : (b : Bool) → not b ≡ true → b ≡ false
not_true true h = absurd (false≢true h)
not_true false h = refl

module _ (near class : Column) where
  receives : ℕ → Bool
  receives i = weak_in (row class i) || strong_in (row class i)

  none_then : none_mapped class ≡ true → unmapped (circuit near class) ≡ true
  unfolding circuit none_mapped receives
  none_then h = unmapped_true (circuit near class) (λ i l. not_true _ (all_at (λ k. not (receives k)) (length class) h i l))

  then_none : unmapped (circuit near class) ≡ true → none_mapped class ≡ true
  unfolding circuit none_mapped receives
  then_none h =
      at_all (λ k. not (receives k)) (length class)
      (λ i l.
      let off : receives i ≡ false = refuted (receives i) (λ on. false≢true (sym (unmapped_false (circuit near class) i l on) ∙ h)) in
      rw off)

  pub unmapped_is : unmapped (circuit near class) ≡ none_mapped class
  unmapped_is = go (unmapped (circuit near class)) refl (none_mapped class) refl
    where
      go : (a : Bool) → unmapped (circuit near class) ≡ a → (b : Bool) → none_mapped class ≡ b → unmapped (circuit near class) ≡ none_mapped class
      go true p b q = p ∙ sym (then_none p)
      go false p true q = absurd (false≢true (sym p ∙ none_then q))
      go false p false q = p ∙ sym q
