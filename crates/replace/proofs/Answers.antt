-- Which refusals a replacement gives, what its answer tells, and what it leaves of a list that was the table's.
-- Assumes nothing.
use Rattle.std.proofs.Common.{Ok, Err}
use mathlib.Core.Path.{◌≡◌, refl, ap, sym, ◌∙◌}
use mathlib.Core.Bool.{not}
use mathlib.Core.List.{List}
use Prim.Native.Nat.{ℕ, ◌≤◌, ◌<◌}
use native.Mathlib.Omega.{arith}
use lib.ListN.{length}
use Rattle.columns.specs.Column.{Bytes}
use Rattle.world.specs.Rows.{rows}
use Rattle.refusals.specs.Check.{Checked, accepted, is_overdriven, IsAccepted, answer_of, written}
use Rattle.refusals.specs.Answers.{of_input, Gives, Tells}
use Rattle.refusals.proofs.Accepted.{accepted_input}
use Rattle.refusals.proofs.Gives.{accepted_gives, or_gives, row_unless_gives, also_gives, wider_gives, input_gives}
use Rattle.refusals.proofs.Tells.{tells}
use Rattle.feeding.specs.Feeders.{feeder_list, is_list_length}
use Rattle.feeding.specs.Replaced.{replaced, updated_list}
use Rattle.feeding.proofs.Updated.{updated_afresh}
use Rattle.feeders.specs.Feeds.{Feeds}
use Rattle.feeders.proofs.Answers.{feeders_tells}
use Rattle.replace.specs.Replace.{is_good_new, stands_at_row, check_new, check_replace, of_replace, Replaces}
use Rattle.replace.proofs.Checks.{given}

module _ (p t : Bytes) (n : ℕ) (fits : n < 65536) (new : Bytes) where
  new_gives : Gives of_input (check_new (length p) t n new)
  unfolding check_new
  new_gives =
      row_unless_gives 4 refl n fits (is_good_new (length p) new) _ λ _.
      row_unless_gives 5 refl n fits (stands_at_row t n new) _ λ _.
      row_unless_gives 10 refl n fits (not (is_overdriven new 0)) accepted λ _. accepted_gives

  -- of a row number of 16 bits
  pub replace_gives : (count : ℕ) → Gives of_replace (check_replace p t n new count)
  unfolding check_replace
  replace_gives count = also_gives 7 refl (is_list_length t count) (wider_gives refl (or_gives _ (input_gives p t) (λ _. new_gives)))

-- ---- the answer: the number of rows, at most 1,024, or 65,536 times the number plus the row

module _ (p t : Bytes) (n : ℕ) (new : Bytes) (list : List ℕ) {t' : Bytes} {list' : List ℕ} {r : ℕ} (c : Replaces p t t' n new list list' r) where
  abbrev checked : Checked
  checked = check_replace p t n new (length list)

  pub replace_tells : n < 65536
      → Tells of_replace (check_replace p t n new (length list)) r
      ((r ≡ rows t) × (r ≤ 1024) × (t' ≡ replaced t n new) × (list' ≡ updated_list p (replaced t n new) n list))
      ((t' ≡ t) × (list' ≡ list))
  replace_tells fits =
      tells refl (replace_gives p t n fits new (length list)) (λ e. omega (arith, few e)) c.answer
      (λ e is. (is, omega (arith, few e, is), rw e at c.bytes, rw e at c.entries))
      (λ m i e. (rw e at c.bytes, rw e at c.entries))
    where
      few : checked ≡ accepted → rows t ≤ 1024
      few e = (accepted_input p t (given p t n new (length list) e).input).1.few

  -- the table that is left is accepted where the one handed in was
  pub leaves_accepted : IsAccepted p t → IsAccepted p t'
  leaves_accepted h = go checked refl
    where
      go : (x : Checked) → checked ≡ x → IsAccepted p t'
      go (Ok _) e = rw (rw e at c.bytes) (given p t n new (length list) e).new_input
      go (Err fault) e = rw (rw e at c.bytes) h

  -- "If the list handed in was the old table's under this profile, the result must equal a list built afresh": also of a refused call, which leaves both
  pub keeps_list : list ≡ feeder_list p t → list' ≡ feeder_list p t'
  keeps_list same = go checked refl
    where
      go : (x : Checked) → checked ≡ x → list' ≡ feeder_list p t'
      go (Ok _) e =
          let g = given p t n new (length list) e in
          rw (rw e at c.bytes)
          (rw e at c.entries ∙ ap (updated_list p (replaced t n new) n) same ∙ updated_afresh p (accepted_input p t g.input).1 g.replaceable)
      go (Err fault) e = rw (rw e at c.bytes) (rw e at c.entries ∙ same)

-- the contents of the list are not tested: another list of that length makes no difference to the answer or to the table
pub contents_untested : (p t : Bytes) (n : ℕ) (new : Bytes) (list other : List ℕ) {t' t'' : Bytes} {list' other' : List ℕ} {r s : ℕ}
    → length list ≡ length other → Replaces p t t' n new list list' r → Replaces p t t'' n new other other' s → (r ≡ s) × (t' ≡ t'')
contents_untested p t n new list other same c d =
    let checks : check_replace p t n new (length list) ≡ check_replace p t n new (length other) = ap (check_replace p t n new) same in (
      c.answer ∙ ap (λ x. answer_of x (rows t)) checks ∙ sym d.answer,
      c.bytes ∙ ap (λ x. written x t (replaced t n new)) checks ∙ sym d.bytes,
    )

-- ---- a list that `feeders` wrote, a row replaced, and the list of the table then as `feeders` writes it

pub as_built : (p t : Bytes) (n : ℕ) (new : Bytes) {blank list t' list' other afresh : List ℕ} {r s q : ℕ}
    → Feeds p t blank list r → r < 65536 → Replaces p t t' n new list list' s → Feeds p t' other afresh q → q < 65536 → list' ≡ afresh
as_built p t n new {blank} {list} {t'} {list'} {other} built l replacing again m =
    let (_, _, first) = (feeders_tells p t blank built).done l in
    let (_, _, last) = (feeders_tells p t' other again).done m in
    keeps_list p t n new list replacing first ∙ sym last
