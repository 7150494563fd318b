-- Laws of the four horizontal facings as numbers.
-- Assumes nothing.
use mathlib.Core.Path.{◌≡◌, refl}
use Prim.Native.Nat.{ℕ, zero, suc, ◌+◌, ◌*◌, ◌%◌, ◌^◌, ◌≤◌}
use native.Mathlib.Omega.{arith}
use Rattle.places.specs.Places.{opposite}
use Rattle.classes.specs.Class.{arm_value}

-- what holds of each
of_four : (P : ℕ → Type 0) → P 1 → P 2 → P 3 → P 4 → (f : ℕ) → 1 ≤ f → f ≤ 4 → P f
of_four P a b c d zero l h = absurd (omega arith)
of_four P a b c d (suc zero) l h = a
of_four P a b c d (suc (suc zero)) l h = b
of_four P a b c d (suc (suc (suc zero))) l h = c
of_four P a b c d (suc (suc (suc (suc zero)))) l h = d
of_four P a b c d (suc (suc (suc (suc (suc f))))) l h = absurd (omega arith)

-- two bits for each arm, from bit 24 on
pub arm-bits : (f : ℕ) → 1 ≤ f → f ≤ 4 → 2 ^ (22 + 2 * f) ≡ arm_value f
arm-bits = of_four (λ f. 2 ^ (22 + 2 * f) ≡ arm_value f) refl refl refl refl

-- half a turn
pub turned : (f : ℕ) → 1 ≤ f → f ≤ 4 → (f + 1) % 4 + 1 ≡ opposite f
unfolding opposite
turned = of_four (λ f. (f + 1) % 4 + 1 ≡ opposite f) refl refl refl refl
