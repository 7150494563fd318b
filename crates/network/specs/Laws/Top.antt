-- Laws of the largest of several levels.
-- Proved laws: nobody has to believe them, or read them to know what is promised. Assumes nothing.
use Rattle.std.specs.Prelude.{◌≡◌, refl, ℕ, zero, suc, ◌+◌, ◌-◌, ◌<◌, max}
use Rattle.std.proofs.Common.{le_refl, add-one, arith}
use Rattle.network.specs.Levels.{top}

-- one level more
pub top_more : (n : ℕ) (f : ℕ → ℕ) → top (n + 1) f ≡ max (top n f) (f n)
unfolding top
top_more n f = rw add-one

pub top_none : (f : ℕ → ℕ) → top 0 f ≡ 0
unfolding top
top_none f = refl

pub top_same : (n : ℕ) (f g : ℕ → ℕ) → ((k : ℕ) → k < n → f k ≡ g k) → top n f ≡ top n g
unfolding top
top_same zero f g h = refl
top_same (suc n) f g h = rw (top_same n f g (λ k l. h k (omega arith)), h n (le_refl _))

pub top_less : (n : ℕ) (f : ℕ → ℕ) → top n (λ k. f k - 1) ≡ top n f - 1
unfolding top
top_less zero f = refl
top_less (suc n) f = rw (top_less n f) (omega arith)
