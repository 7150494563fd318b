-- Laws of the row of a support.
-- Assumes nothing.
use mathlib.Core.Path.{◌≡◌, refl, ap, sym, ◌∙◌}
use mathlib.Core.Bool.{Bool, true, false, ◌&&◌, and-true}
use Prim.Native.Nat.{ℕ}
use Rattle.columns.specs.declared.Found.{Found}
use Rattle.columns.specs.declared.Found.TheVariants.{At, Nothing}
use Rattle.columns.specs.Column.{Bytes}
use Rattle.columns.specs.First.{found_if, on_found}
use Rattle.world.specs.Rows.{support_of}
use Rattle.world.specs.Find.{find_at}
use Rattle.traits.specs.Traits.{traits}
use Rattle.supports.specs.Supports.{is_supported}
use Rattle.supports.specs.Rows.{support_row}

module _ (p t : Bytes) (i : ℕ) where
  -- a test of the support that is found is one of what stands at the support's position
  pub on_support : (f : ℕ → Bool) → on_found f false (support_row p t i) ≡ on_found (λ j. (traits p t j).supports && f j) false (find_at t (support_of t i))
  unfolding support_row
  on_support f = go (find_at t (support_of t i))
    where
      here : (j : ℕ) (b : Bool) → on_found f false (found_if b j Nothing) ≡ (b && f j)
      here j true = refl
      here j false = refl

      go : (x : Found) → on_found f false (on_found (λ j. found_if (traits p t j).supports j Nothing) Nothing x) ≡ on_found (λ j. (traits p t j).supports && f j) false x
      go (At j) = here j (traits p t j).supports
      go Nothing = refl

  -- the row is supported where one is found
  pub supported_found : is_supported p t i ≡ on_found (λ j. true) false (support_row p t i)
  unfolding is_supported
  supported_found = ap (λ f. on_found f false (find_at t (support_of t i))) (λ x j. sym (and-true (traits p t j).supports) x) ∙ sym (on_support (λ j. true))
