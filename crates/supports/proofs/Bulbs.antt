-- Document 02, Change 4: on tables without bulbs the bulb's byte makes no difference to the support list. Assumes nothing.
use mathlib.Core.Path.{◌≡◌}
use mathlib.Core.Bool.{false, not, ◌&&◌}
use Prim.Native.Nat.{ℕ}
use lib.ListN.{length}
use Rattle.columns.specs.Column.{Bytes}
use Rattle.columns.specs.First.{on_found, indices_from}
use Rattle.blocks.proofs.Bulbs.{with_bulb}
use Rattle.world.specs.Rows.{rows, kind_of, support_of}
use Rattle.world.specs.Find.{find_at}
use Rattle.traits.proofs.Profiles.{traits_with_bulb}
use Rattle.refusals.specs.Check.{IsAccepted}
use Rattle.refusals.proofs.Bulbs.{no_bulb}
use Rattle.supports.specs.Supports.{needs_support, is_supported, lacks_support, support_issues}

-- of a table that 13 bytes accept, under these and a fourteenth
pub issues_with_bulb : (p t : Bytes) → length p ≡ 13 → IsAccepted p t → (b : ℕ) → support_issues (with_bulb p b) t ≡ support_issues p t
unfolding support_issues lacks_support is_supported
issues_with_bulb p t long h b =
    λ x. indices_from
    (λ i. needs_support (kind_of t i) && not (on_found (λ j. (traits_with_bulb p t long (no_bulb p t long h) b j x).supports) false (find_at t (support_of t i))))
    (rows t) 0
