-- Which refusals a call of `feeders` gives, and what its answer tells.
-- Assumes nothing.
use mathlib.Core.Path.{◌≡◌, refl}
use mathlib.Core.List.{List}
use Prim.Native.Nat.{ℕ, ◌≤◌}
use native.Mathlib.Omega.{arith}
use lib.ListN.{length}
use Rattle.columns.specs.Column.{Bytes}
use Rattle.world.specs.Rows.{rows}
use Rattle.refusals.specs.Check.{accepted}
use Rattle.refusals.specs.Answers.{Gives, Tells}
use Rattle.refusals.proofs.Accepted.{accepted_input}
use Rattle.refusals.proofs.Gives.{also_gives, wider_gives, input_gives}
use Rattle.refusals.proofs.Tells.{tells}
use Rattle.feeding.specs.Feeders.{feeder_list, is_list_length}
use Rattle.feeders.specs.Feeds.{check_feeders, of_feeders, Feeds}
use Rattle.feeders.proofs.Checks.{given}

pub feeders_gives : (p t : Bytes) (count : ℕ) → Gives of_feeders (check_feeders p t count)
unfolding check_feeders
feeders_gives p t count = also_gives 7 refl (is_list_length t count) (wider_gives refl (input_gives p t))

-- ---- the answer: the number of rows, at most 1,024, or 65,536 times the number plus the row

module _ (p t : Bytes) (list : List ℕ) {list' : List ℕ} {r : ℕ} (c : Feeds p t list list' r) where
  pub feeders_tells : Tells of_feeders (check_feeders p t (length list)) r ((r ≡ rows t) × (r ≤ 1024) × (list' ≡ feeder_list p t)) (list' ≡ list)
  feeders_tells =
      tells refl (feeders_gives p t (length list)) (λ e. omega (arith, few e)) c.answer
      (λ e is. (is, omega (arith, few e, is), rw e at c.entries))
      (λ n i e. rw e at c.entries)
    where
      few : check_feeders p t (length list) ≡ accepted → rows t ≤ 1024
      few e = (accepted_input p t (given p t (length list) e).input).1.few
