-- Laws of the answer of a call: which refusal fell on it, or none, can be read from it.
-- Assumes nothing.
use Rattle.std.proofs.Common.{Ok, Err}
use mathlib.Core.Path.{◌≡◌, refl, sym, ap, ◌∙◌}
use mathlib.Core.Logic.{by_cases}
use mathlib.Core.Bool.{true, false, true≢false}
use mathlib.Core.List.{List}
use Prim.Native.Nat.{ℕ, zero, suc, ◌+◌, ◌*◌, ◌/◌, ◌%◌, ◌≤◌, ◌<◌}
use native.Mathlib.Decide.{dec_lt}
use native.Mathlib.Omega.{arith}
use borrow.Author.Tests.{le-leb, lt-leb}
use Rattle.blocks.specs.Kind.{one_of}
use Rattle.refusals.specs.Check.{Checked, accepted, refused, answer_of, written}
use Rattle.refusals.specs.Answers.{Gives, decode, Tells}
use Rattle.refusals.proofs.Passed.{never}

-- ---- below 65,536, and from there on

decode_small : (r : ℕ) → r < 65536 → decode r ≡ accepted
unfolding decode
decode_small r h = rw (lt-leb 65536 r h)

decode_large : (r : ℕ) → 65536 ≤ r → decode r ≡ refused (r / 65536) (r % 65536)
unfolding decode
decode_large r h = rw (le-leb 65536 r h)

-- ---- the law

at_least_1 : (ns : List ℕ) → one_of ns 0 ≡ false → (n : ℕ) → one_of ns n ≡ true → 1 ≤ n
at_least_1 ns from-1 zero h = absurd (true≢false (sym h ∙ from-1))
at_least_1 ns from-1 (suc n) h = omega arith

module _ {ns : List ℕ} (from-1 : one_of ns 0 ≡ false) where
  -- Of a check that gives numbers from 1 up, and a result below 65,536 where the call is accepted, the answer says which refusal fell,
  -- by number and row, or that none did; and then it is the result.
  pub decode_answer : (c : Checked) (done : ℕ) → Gives ns c → (c ≡ accepted → done < 65536) → decode (answer_of c done) ≡ c
  decode_answer (Ok _) done g small = decode_small done (small refl)
  decode_answer (Err fault) done g small =
      let row : fault.row < 65536 = g.row _ _ refl in
      let number : 1 ≤ fault.number = at_least_1 ns from-1 _ (g.number _ _ refl) in
      let same_number : (65536 * fault.number + fault.row) / 65536 ≡ fault.number = omega arith in
      let same_row : (65536 * fault.number + fault.row) % 65536 ≡ fault.row = omega arith in
      decode_large (65536 * fault.number + fault.row) (omega arith) ∙ rw (same_number, same_row)

  -- of a call, with what holds of its buffers where it is accepted, and where it is refused
  pub tells : {c : Checked} {done r : ℕ} {Done Kept : Type 0} → Gives ns c → (c ≡ accepted → done < 65536) → r ≡ answer_of c done
      → (c ≡ accepted → r ≡ done → Done) → ((n i : ℕ) → c ≡ refused n i → Kept) → Tells ns c r Done Kept
  tells {c} {done} {r} g small e finish keep =
      let is : decode r ≡ c = ap decode e ∙ decode_answer c done g small in
      let is_accepted : r < 65536 → c ≡ accepted = λ l. sym is ∙ decode_small r l in
      let is_refused : 65536 ≤ r → c ≡ refused (r / 65536) (r % 65536) = λ l. sym is ∙ decode_large r l in
      record {
        check = is;
        done = λ l. finish (is_accepted l) (rw (is_accepted l) at e);
        number = λ l. g.number _ _ (is_refused l);
        kept = λ l. keep _ _ (is_refused l);
      }

-- ---- what it tells

module _ {ns : List ℕ} {c : Checked} {r : ℕ} {Done Kept : Type 0} (t : Tells ns c r Done Kept) where
  pub told_accepted : r < 65536 → c ≡ accepted
  told_accepted l = sym t.check ∙ decode_small r l

  pub told_refused : 65536 ≤ r → c ≡ refused (r / 65536) (r % 65536)
  told_refused l = sym t.check ∙ decode_large r l

  pub accepted_told : c ≡ accepted → r < 65536
  accepted_told e = by_cases (dec_lt r 65536) (λ l. l) (λ n. never (sym (told_refused (omega arith)) ∙ e))

  -- a number that the call does not give is not read from it
  pub never_told : (n : ℕ) → 1 ≤ n → one_of ns n ≡ false → ¬ (r / 65536 ≡ n)
  never_told n l h e = true≢false (sym (rw e at (t.number (omega arith))) ∙ h)

  -- one more buffer
  pub tells_also : {A : Type 0} {old new now : A} → now ≡ written c old new → Tells ns c r (Done × (now ≡ new)) (Kept × (now ≡ old))
  tells_also h =
      record {
        check = t.check;
        done = λ l. (t.done l, rw (told_accepted l) at h);
        number = t.number;
        kept = λ l. (t.kept l, rw (told_refused l) at h);
      }
