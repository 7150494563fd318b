-- Which refusals the support list gives, and what its answer tells.
-- Assumes nothing.
use mathlib.Core.Path.{◌≡◌, refl}
use mathlib.Core.List.{[], ◌∷◌, ◌++◌}
use Prim.Native.Nat.{ℕ, ◌≤◌}
use native.Mathlib.Nat.{le_trans}
use native.Mathlib.Omega.{arith}
use lib.ListN.{length}
use lib.Dec.{eqb}
use Rattle.columns.specs.Column.{Bytes, Column, at_front}
use Rattle.columns.proofs.Indices.{length_indices}
use Rattle.world.specs.Rows.{rows}
use Rattle.refusals.specs.Check.{accepted, check_input}
use Rattle.refusals.specs.Answers.{Gives, of_input, Tells}
use Rattle.refusals.proofs.Passed.{passed_both}
use Rattle.refusals.proofs.Accepted.{accepted_input}
use Rattle.refusals.proofs.Gives.{also_gives, wider_gives, input_gives}
use Rattle.refusals.proofs.Tells.{tells}
use Rattle.supports.specs.Supports.{lacks_support, support_issues, check_supports, Listed}

pub supports_give : (p t : Bytes) (entries : ℕ) → Gives (of_input ++ 7 ∷ []) (check_supports p t entries)
unfolding check_supports
supports_give p t entries = also_gives 7 refl (eqb entries (rows t)) (wider_gives refl (input_gives p t))

-- ---- the count

-- of an accepted table it is at most 1,024
accepted_count : (p t : Bytes) (entries : ℕ) → check_supports p t entries ≡ accepted → length (support_issues p t) ≤ 1024
unfolding check_supports support_issues
accepted_count p t entries h =
    le_trans (length_indices (lacks_support p t) (rows t) 0) (accepted_input p t (passed_both (check_input p t) _ h).0).1.few

-- ---- the answer: "the count is returned", at most 1,024, or 65,536 times the number plus the row

pub listed_tells : {p t : Bytes} {column column' : Column} {r : ℕ} → Listed p t column column' r
    → Tells (of_input ++ 7 ∷ []) (check_supports p t (length column)) r
    ((r ≡ length (support_issues p t)) × (r ≤ 1024) × (column' ≡ at_front (support_issues p t) column)) (column' ≡ column)
listed_tells {p} {t} {column} l =
    let few = accepted_count p t (length column) in
    tells refl (supports_give p t (length column)) (λ a. omega (arith, few a)) l.answer
    (λ a is. (is, omega (arith, few a, is), rw a at l.entries))
    (λ n i f. rw f at l.entries)
