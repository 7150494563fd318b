-- Laws of a run of the program: which refusal falls on it. The fresh devices of an accepted table are valid, and limit 128 is never too low.
-- Assumes nothing.
use mathlib.Core.Path.{◌≡◌, refl, ◌∙◌}
use mathlib.Core.Logic.{by_cases}
use mathlib.Core.Bool.{true, false, cond, ◌||◌}
use mathlib.Core.List.{◌++◌}
use Prim.Native.Nat.{ℕ, ◌%◌, ◌≤◌, ◌<◌}
use native.Mathlib.Decide.{ℕ_discrete, dec_lt}
use native.Mathlib.Omega.{arith}
use lib.ListN.{length, length-append}
use lib.Seq.{take_at, drop_at}
use lib.Dec.{eqb, leb}
use borrow.Author.Tests.{eq-eqb, ne_eqb, le-leb, lt-leb}
use Rattle.columns.specs.Column.{Bytes}
use Rattle.world.specs.Rows.{rows}
use Rattle.refusals.specs.Check.{accepted, refused, check_input}
use Rattle.refusals.proofs.Accepted.{accepted_input}
use Rattle.electrical.specs.Answer.{check_call, check_settle}
use Rattle.electrical.proofs.Demand.{never_unsettled}
use Rattle.updates.specs.State.{fresh_devices}
use Rattle.running.proofs.Valid.{fresh_devices_valid}
use Rattle.lines.specs.Lines.{refusal_text}
use Rattle.report.specs.Text.{text_of, profile_bytes, profile_of, table_of, check_run, most_bytes, has_whole_rows, check_whole, run_text, settle_text}

-- ---- what falls on a run

module _ (p t : Bytes) where
  call_accepted : check_input p t ≡ accepted → check_call p t (fresh_devices t) (rows t) (rows t) (rows t) ≡ accepted
  unfolding check_call
  call_accepted h = rw (h, fresh_devices_valid t (accepted_input p t h).1, eq-eqb (rows t) (rows t) refl)

  pub run_accepted : check_input p t ≡ accepted → check_run p t ≡ accepted
  unfolding check_run
  run_accepted h = never_unsettled p t (fresh_devices t) 128 (omega arith) (rows t) (rows t) (rows t) ∙ call_accepted h

  pub run_refused : {n i : ℕ} → check_input p t ≡ refused n i → check_run p t ≡ refused n i
  unfolding check_run check_settle check_call
  run_refused h = rw h

  -- a table that is accepted has few rows
  pub run_few : check_input p t ≡ accepted → rows t ≤ 1024
  run_few h = (accepted_input p t h).1.few

-- ---- the text of the whole input

module _ (input : Bytes) where
  -- 32,782 bytes have the remainder 14, so that this limit is everyone's
  one_limit : leb (length input) (most_bytes input) ≡ leb (length input) 32782
  one_limit = by_cases (ℕ_discrete (length input % 32) 14) (λ e. rw e) (λ n. rw (ne_eqb (length input % 32) 14 n) (not_at n))
    where
      not_at : ¬ (length input % 32 ≡ 14) → leb (length input) 32781 ≡ leb (length input) 32782
      not_at n =
          by_cases (dec_lt 32781 (length input)) (λ l. rw (lt-leb (length input) 32781 l, lt-leb (length input) 32782 (omega arith)))
          (λ m. rw (le-leb (length input) 32781 (omega arith), le-leb (length input) 32782 (omega arith)))

  -- "its byte limit becomes 32,782 with 14"
  pub crowded_text : 32782 < length input → settle_text input ≡ refusal_text 3 0
  unfolding settle_text check_whole
  crowded_text h = rw (one_limit, lt-leb (length input) 32782 h)

  -- "still calls less than 13 bytes number 1"
  pub short_text : length input < 13 → settle_text input ≡ refusal_text 1 0
  unfolding settle_text check_whole
  short_text h = rw (one_limit, le-leb (length input) 32782 (omega arith), lt-leb 13 (length input) h)

  module _ (least : 13 ≤ length input) (most : length input ≤ 32782) where
    -- "calls any other remainder number 2, before number 1's other cases"
    pub ragged_text : has_whole_rows input ≡ false → settle_text input ≡ refusal_text 2 0
    unfolding settle_text check_whole
    ragged_text h = rw (one_limit, le-leb (length input) 32782 most, le-leb 13 (length input) least, h)

    pub whole_text : has_whole_rows input ≡ true → settle_text input ≡ text_of (check_run (profile_of input) (table_of input)) (run_text (profile_of input) (table_of input))
    unfolding settle_text check_whole
    whole_text h = rw (one_limit, le-leb (length input) 32782 most, le-leb 13 (length input) least, h)

  -- the profile is no longer than the input: nothing below 14 has the remainder 14
  pub profile_fits : 13 ≤ length input → profile_bytes input ≤ length input
  profile_fits h = by_cases (ℕ_discrete (length input % 32) 14) (λ e. rw e (omega arith)) (λ n. rw (ne_eqb (length input % 32) 14 n) h)

-- ---- the text of a profile and a table, one after the other

module _ (p t : Bytes) (rows_whole : length t % 32 ≡ 0) (rows_few : length t ≤ 32768) where
  -- the bytes of the profile are the remainder
  parted_text : (n : ℕ) → length p ≡ n → 13 ≤ n → n ≤ 14 → cond (eqb n 14) 14 13 ≡ n → (eqb n 13 || eqb n 14) ≡ true → settle_text (p ++ t) ≡ text_of (check_run p t) (run_text p t)
  parted_text n h least most told good =
      let long = length-append p t in
      let left : length (p ++ t) % 32 ≡ n = omega (arith, long) in
      whole_text (p ++ t) (omega (arith, long)) (omega (arith, long)) (rw (left, good))
      ∙ rw (left, told, take_at p t n h, drop_at p t n h)

  -- "tells 13 from 14 by the length's remainder by 32": with 13 bytes more than whole rows the profile is the first 13, and the table the rest,
  pub of_13 : length p ≡ 13 → settle_text (p ++ t) ≡ text_of (check_run p t) (run_text p t)
  of_13 h = parted_text 13 h (omega arith) (omega arith) refl refl

  -- and with 14 more it is the first 14
  pub of_14 : length p ≡ 14 → settle_text (p ++ t) ≡ text_of (check_run p t) (run_text p t)
  of_14 h = parted_text 14 h (omega arith) (omega arith) refl refl
