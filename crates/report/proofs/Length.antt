-- No text is longer than the room: the text of every input fits.
-- Assumes nothing.
use Rattle.std.proofs.Common.{Ok, Err}
use mathlib.Core.Path.{◌≡◌, refl}
use mathlib.Core.Bool.{Bool, true, false}
use mathlib.Core.Logic.{by_cases}
use Prim.Native.Nat.{ℕ, ◌+◌, ◌-◌, ◌%◌, ◌≤◌, zero-le}
use native.Mathlib.Decide.{dec_lt}
use native.Mathlib.Omega.{arith}
use lib.ListN.{length, length-append}
use lib.Dec.{eqb, leb}
use borrow.Author.Tests.{leb-true}
use Rattle.columns.specs.declared.Found.{Found}
use Rattle.columns.specs.declared.Found.TheVariants.{At, Nothing}
use Rattle.columns.specs.Column.{Bytes}
use Rattle.columns.specs.First.{first_from}
use Rattle.columns.specs.Ascii.{ascii}
use Rattle.columns.proofs.First.{first_at}
use Rattle.columns.proofs.Parts.{concat_rows_short}
use Rattle.world.specs.Rows.{rows, pos_of}
use Rattle.layout.specs.Good.{good_profile}
use Rattle.refusals.specs.Check.{Checked, accepted, refused, refuse_unless, refuse_at, is_bad, is_misplaced, is_overdriven, check_rows, check_table, check_input}
use Rattle.refusals.proofs.Accepted.{accepted_input, in-range}
use Rattle.electrical.specs.Answer.{rounds_of, settled}
use Rattle.electrical.proofs.Demand.{rounds_range, settled_at_most_15}
use Rattle.updates.specs.State.{fresh_devices}
use Rattle.running.proofs.Valid.{fresh_devices_valid}
use Rattle.text.proofs.Lengths.{line_few}
use Rattle.lines.specs.Lines.{row_of, settled_text, refusal_text}
use Rattle.lines.proofs.Lengths.{row_few, refusal_few}
use Rattle.report.specs.Text.{profile_of, table_of, text_of, has_whole_rows, run_text, check_run, settle_text, room}
use Rattle.report.proofs.Run.{run_accepted, run_refused, crowded_text, short_text, ragged_text, whole_text}

-- ---- the text of an accepted table

settled_few : (p t : Bytes) → check_input p t ≡ accepted → length (run_text p t) ≤ room
unfolding run_text settled_text
settled_few p t h =
    let d = fresh_devices t in
    let s = settled p t d in
    let table = (accepted_input p t h).1 in
    let low = settled_at_most_15 p t d (fresh_devices_valid t table) in
    let lines = concat_rows_short 40 (row_of t s.signal s.weak s.strong) (rows t)
    (λ i l. row_few (pos_of t i) _ _ _ (in-range t table i l) (low.signals i) (low.weaks i) (low.strongs i)) in
    rw (length-append, length-append)
    (omega (arith, lines, table.few, line_few (ascii "blocks=") (rows t) 3 (omega (arith, table.few)), line_few (ascii "rounds=") (rounds_of p t d) 1 (omega (arith, rounds_range p t d))))

-- ---- the text of a refusal

-- a refusal's number and row are small
abbrev Small : Checked → Type 0
Small (Ok _) = Unit {0}
Small (Err fault) = (fault.number ≤ 10) × (fault.row ≤ 1024)

small_unless : (n : ℕ) (b : Bool) (next : Checked) → n ≤ 10 → (b ≡ true → Small next) → Small (refuse_unless n b next)
small_unless n true next h g = g refl
small_unless n false next h g = (h, zero-le)

small_at : (n d : ℕ) (f : Found) (next : Checked) → n ≤ 10 → ((k : ℕ) → f ≡ At k → k + d ≤ 1024) → Small next → Small (refuse_at n d f next)
small_at n d (At k) next h g m = (h, g k refl)
small_at n d Nothing next h g m = m

small_input : (p t : Bytes) → Small (check_input p t)
unfolding check_input check_table check_rows
small_input p t =
    small_unless 1 (good_profile p) _ (omega arith)
    (λ _.
    small_unless 2 (eqb (length t % 32) 0) _ (omega arith)
    (λ _.
    small_unless 3 (leb (rows t) 1024) _ (omega arith)
    (λ few.
    small_at 4 0 (first_from (is_bad (length p) t) (rows t) 0) _ (omega arith)
    (λ k e. omega (arith, (first_at (is_bad (length p) t) (rows t) 0 k e).inside, leb-true (rows t) 1024 few))
    (small_at 5 1 (first_from (is_misplaced t) (rows t - 1) 0) _ (omega arith)
    (λ k e. omega (arith, (first_at (is_misplaced t) (rows t - 1) 0 k e).inside, leb-true (rows t) 1024 few))
    (small_at 10 0 (first_from (is_overdriven t) (rows t) 0) accepted (omega arith)
    (λ k e. omega (arith, (first_at (is_overdriven t) (rows t) 0 k e).inside, leb-true (rows t) 1024 few))
    tt)))))

refusal_fits : (n i : ℕ) → Small (refused n i) → length (refusal_text n i) ≤ room
refusal_fits n i s = omega (arith, refusal_few n i (omega (arith, s.0)) (omega (arith, s.1)))

-- ---- the text of the whole input

run_fits : (p t : Bytes) → length (text_of (check_run p t) (run_text p t)) ≤ room
run_fits p t = go (check_input p t) refl (small_input p t)
  where
    go : (c : Checked) → check_input p t ≡ c → Small c → length (text_of (check_run p t) (run_text p t)) ≤ room
    go (Ok _) e s = rw (run_accepted p t e) (settled_few p t e)
    go (Err fault) e s = rw (run_refused p t e) (refusal_fits fault.number fault.row s)

pub text_fits : (input : Bytes) → length (settle_text input) ≤ room
text_fits input =
    by_cases (dec_lt 32782 (length input)) (λ l. rw (crowded_text input l) (refusal_fits 3 0 (omega arith, zero-le)))
    (λ m.
    by_cases (dec_lt (length input) 13) (λ l. rw (short_text input l) (refusal_fits 1 0 (omega arith, zero-le)))
    (λ n. by_whole (has_whole_rows input) refl (omega arith) (omega arith)))
  where
    by_whole : (b : Bool) → has_whole_rows input ≡ b → 13 ≤ length input → length input ≤ 32782 → length (settle_text input) ≤ room
    by_whole true e h l = rw (whole_text input h l e) (run_fits (profile_of input) (table_of input))
    by_whole false e h l = rw (ragged_text input h l e) (refusal_fits 2 0 (omega arith, zero-le))
