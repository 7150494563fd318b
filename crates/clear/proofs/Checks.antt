-- What the tests of a clearing say, and where each refusal falls.
-- Assumes nothing.
use mathlib.Core.Path.{◌≡◌, refl}
use mathlib.Core.Logic.{◌⊎◌, ⊎_elim}
use mathlib.Core.Bool.{◌&&◌}
use Prim.Native.Nat.{ℕ}
use lib.ListN.{length}
use lib.Dec.{eqb}
use borrow.Author.Tests.{eqb-true, eq-eqb, ne_eqb}
use Rattle.columns.specs.Column.{Bytes}
use Rattle.columns.proofs.Truth.{and_true, and_false_left, and_false_right}
use Rattle.world.specs.Rows.{rows}
use Rattle.refusals.specs.Check.{accepted, refused, check_input, IsAccepted}
use Rattle.refusals.proofs.Passed.{passed_both, passed_unless}
use Rattle.clear.specs.Clear.{check_clear}

module _ (p t : Bytes) (bytes entries : ℕ) where
  -- what an accepted call has
  pub record Given : Type 0 where
    pub input : IsAccepted p t
    pub bytes_long : bytes ≡ length t
    pub entries_long : entries ≡ rows t

  pub given : check_clear p t bytes entries ≡ accepted → Given
  unfolding check_clear
  given h =
      let (input, rest) = passed_both (check_input p t) _ h in
      let (lengths, _) = passed_unless 7 (eqb bytes (length t) && eqb entries (rows t)) _ rest in
      let (first, second) = and_true (eqb bytes (length t)) (eqb entries (rows t)) lengths in
      record { input = input; bytes_long = eqb-true bytes (length t) first; entries_long = eqb-true entries (rows t) second }

  -- What falls on the profile or the table falls on the call,
  pub input_refused : {n i : ℕ} → check_input p t ≡ refused n i → check_clear p t bytes entries ≡ refused n i
  unfolding check_clear
  input_refused h = rw h refl

  -- then "a wrong length is 7", of either buffer,
  pub length_refused : IsAccepted p t → (¬ (bytes ≡ length t)) ⊎ (¬ (entries ≡ rows t)) → check_clear p t bytes entries ≡ refused 7 0
  unfolding check_clear
  length_refused h wrong = ⊎_elim
      (λ n. rw (h, and_false_left (eqb bytes (length t)) (eqb entries (rows t)) (ne_eqb bytes (length t) n)) refl)
      (λ n. rw (h, and_false_right (eqb bytes (length t)) (eqb entries (rows t)) (ne_eqb entries (rows t) n)) refl)
      wrong

  -- and nothing else is refused.
  pub clear_accepted : Given → check_clear p t bytes entries ≡ accepted
  unfolding check_clear
  clear_accepted g = rw (g.input, eq-eqb bytes (length t) g.bytes_long, eq-eqb entries (rows t) g.entries_long) refl
