-- Laws of a loop that changes a column in place.
-- Assumes nothing.
use mathlib.Core.Path.{◌≡◌, refl, ◌∙◌}
use Prim.Native.Nat.{ℕ, ◌+◌, ◌≤◌, ◌<◌}
use native.Mathlib.Omega.{arith}
use lib.ListN.{length, set}
use lib.Seq.{get_or-set_other}
use Rattle.columns.specs.Column.{Column, row}
use Rattle.columns.proofs.Columns.{Filled, filled_none, filled_more}

-- the first i of n rows are those of f, and the others as they were in s₀
pub record Changed (f : ℕ → ℕ) (n : ℕ) (s₀ : Column) (i : ℕ) (s : Column) : Type 0 where
  pub filled : Filled f n i s
  pub rest : (k : ℕ) → i ≤ k → row s k ≡ row s₀ k

pub changed_none : {f : ℕ → ℕ} {n : ℕ} {s : Column} → length s ≡ n → Changed f n s 0 s
changed_none p = record { filled = filled_none p; rest = λ k l. refl }

pub changed_more : {f : ℕ → ℕ} {n : ℕ} {s₀ : Column} {i : ℕ} {s : Column} {x : ℕ} → Changed f n s₀ i s → i < n → x ≡ f i
    → Changed f n s₀ (i + 1) (set s i x)
changed_more {i = i} {s = s} {x = x} h l p =
    record {
      filled = filled_more h.filled l p;
      rest = λ k m. get_or-set_other s i k x 0 (λ q. omega arith) ∙ h.rest k (omega arith);
    }
