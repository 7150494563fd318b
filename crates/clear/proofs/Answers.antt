-- Which refusals a clearing gives, what its answer tells, and what it writes.
-- Assumes nothing.
use mathlib.Core.Path.{◌≡◌, refl, ap, sym, ◌∙◌}
use mathlib.Core.Bool.{◌&&◌}
use mathlib.Core.List.{[]}
use Prim.Native.Nat.{ℕ, ◌*◌, ◌≤◌, ◌<◌}
use native.Mathlib.Omega.{arith}
use lib.ListN.{length, take, drop}
use lib.Seq.{take_at, drop_at}
use lib.Dec.{eqb}
use Rattle.columns.specs.Column.{Bytes, Column, at_front}
use Rattle.world.specs.Rows.{rows}
use Rattle.refusals.specs.Check.{accepted, IsAccepted}
use Rattle.refusals.specs.Answers.{Gives, Tells}
use Rattle.refusals.proofs.Accepted.{accepted_input}
use Rattle.refusals.proofs.Gives.{also_gives, wider_gives, input_gives}
use Rattle.refusals.proofs.Tells.{tells, told_accepted}
use Rattle.supports.specs.Supports.{support_issues}
use Rattle.clearing.specs.Kept.{kept_rows, kept_table, pass_column}
use Rattle.clearing.proofs.Clearing.{kept_accepted, kept_count, kept_few, kept_none}
use Rattle.clear.specs.Clear.{check_clear, of_clear, Clears}
use Rattle.clear.proofs.Checks.{given}

pub clear_gives : (p t : Bytes) (bytes entries : ℕ) → Gives of_clear (check_clear p t bytes entries)
unfolding check_clear
clear_gives p t bytes entries = also_gives 7 refl (eqb bytes (length t) && eqb entries (rows t)) (wider_gives refl (input_gives p t))

-- ---- the answer: "the number kept", at most 1,024, or 65,536 times the number plus the row

module _ (p t out : Bytes) (column : Column) {out' : Bytes} {column' : Column} {r : ℕ} (c : Clears p t out out' column column' r) where
  -- an accepted call has an accepted table
  input : check_clear p t (length out) (length column) ≡ accepted → IsAccepted p t
  input e = (given p t (length out) (length column) e).input

  pub clear_tells : Tells of_clear (check_clear p t (length out) (length column)) r
      ((r ≡ rows (kept_table p t)) × (r ≤ 1024) × (out' ≡ at_front (kept_table p t) out) × (column' ≡ pass_column p t))
      ((out' ≡ out) × (column' ≡ column))
  clear_tells =
      tells refl (clear_gives p t (length out) (length column)) (λ e. omega (arith, few e)) c.answer
      (λ e is. (is ∙ sym (kept_count p t (input e)), omega (arith, few e, is), rw e at c.bytes, rw e at c.entries))
      (λ n i e. (rw e at c.bytes, rw e at c.entries))
    where
      few : check_clear p t (length out) (length column) ≡ accepted → length (kept_rows p t) ≤ 1024
      few e = omega (arith, kept_few p t, (accepted_input p t (input e)).1.few)

  module _ (l : r < 65536) where
    table_accepted : IsAccepted p t
    table_accepted = input (told_accepted clear_tells l)

    -- below 65,536 the output's front is the table of the kept rows, "leaving the rest of it untouched"
    pub clear_front : (take (r * 32) out' ≡ kept_table p t) × (drop (r * 32) out' ≡ drop (r * 32) out)
    clear_front =
        let (count, _, bytes, _) = clear_tells.done l in
        let long : length (kept_table p t) ≡ r * 32 = (accepted_input p (kept_table p t) (kept_accepted p t table_accepted)).1.whole ∙ ap (λ n. n * 32) (sym count) in
        let rest = drop (length (kept_table p t)) out in (
          rw bytes (take_at (kept_table p t) rest (r * 32) long),
          rw bytes (drop_at (kept_table p t) rest (r * 32) long ∙ ap (λ n. drop n out) long),
        )

    -- which is itself accepted,
    pub clear_writes_accepted : IsAccepted p (take (r * 32) out')
    clear_writes_accepted = rw clear_front.0 (kept_accepted p t table_accepted)

    -- and of which the support list names none
    pub clear_writes_supported : support_issues p (take (r * 32) out') ≡ []
    clear_writes_supported = rw clear_front.0 (kept_none p t table_accepted)
