-- Laws of the tests: what an accepted call of `feeders` has, and where each number falls.
-- Assumes nothing.
use mathlib.Core.Path.{◌≡◌, refl}
use Prim.Native.Nat.{ℕ, ◌*◌}
use borrow.Author.Tests.{eqb-true, eq-eqb, ne_eqb}
use Rattle.columns.specs.Column.{Bytes}
use Rattle.world.specs.Rows.{rows}
use Rattle.refusals.specs.Check.{accepted, refused, check_input, IsAccepted}
use Rattle.refusals.proofs.Passed.{passed_both, passed_unless}
use Rattle.feeding.specs.Feeders.{is_list_length}
use Rattle.feeders.specs.Feeds.{check_feeders}

module _ (p t : Bytes) (count : ℕ) where
  -- what an accepted call has
  pub record Given : Type 0 where
    pub input : IsAccepted p t
    pub list_long : count ≡ rows t * 12

  pub given : check_feeders p t count ≡ accepted → Given
  unfolding check_feeders
  given h =
      let (input, rest) = passed_both (check_input p t) _ h in
      let (sized, _) = passed_unless 7 (is_list_length t count) _ rest in
      record { input = input; list_long = eqb-true count (rows t * 12) sized }

  -- What falls on the profile or the table falls on the call,
  pub input_refused : {n i : ℕ} → check_input p t ≡ refused n i → check_feeders p t count ≡ refused n i
  unfolding check_feeders
  input_refused h = rw h refl

  -- "then a wrong list length 7", row 0,
  pub length_refused : IsAccepted p t → ¬ (count ≡ rows t * 12) → check_feeders p t count ≡ refused 7 0
  unfolding check_feeders
  length_refused h wrong = rw (h, ne_eqb count (rows t * 12) wrong) refl

  -- and nothing else is refused.
  pub feeders_accepted : Given → check_feeders p t count ≡ accepted
  unfolding check_feeders
  feeders_accepted g = rw (g.input, eq-eqb count (rows t * 12) g.list_long) refl
