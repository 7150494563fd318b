-- Document 02, Changes 3 and 4: number 1, beside number 1 of document 01. Assumes nothing.
use mathlib.Core.Path.{◌≡◌, refl, ap, sym, ◌∙◌}
use mathlib.Core.Logic.{by_cases}
use mathlib.Core.Bool.{Bool, true, false, ◌&&◌, ◌||◌, and-true}
use Prim.Native.Nat.{ℕ, ◌/◌, ◌%◌, ◌≤◌, ◌<◌}
use native.Mathlib.Decide.{ℕ_discrete, dec_lt}
use native.Mathlib.Omega.{arith}
use lib.ListN.{length, get_or, length-set, get_or-eq_default}
use lib.Dec.{eqb, leb}
use borrow.Author.Tests.{ne_eqb, le-leb, lt-leb, eqb-false}
use Rattle.columns.specs.Column.{Bytes}
use Rattle.columns.specs.First.{all_below}
use Rattle.columns.proofs.First.{all_same, all_fails}
use Rattle.columns.proofs.Truth.{and_false_right}
use Rattle.blocks.specs.Kind.{RedstoneTorch, CopperBulb}
use Rattle.blocks.specs.Profile.{says, torch_charges_above}
use Rattle.blocks.proofs.Values.{without_value, torch_byte, other_byte}
use Rattle.blocks.proofs.Bulbs.{with_bulb, length_with_bulb, bulb_byte, kind_byte}
use Rattle.layout.specs.Good.{most_of, good_length, low_bytes, good_profile}

-- number 1 of document 01 does not fall on the profile: "not 13 bytes, Air not 0, or a byte above 31"
abbrev pub good_profile01 : Bytes → Bool
good_profile01 p = eqb (length p) 13 && (eqb (get_or p 0 0) 0 && all_below (λ k. leb (get_or p k 0) 31) 13)

both : {a b a' b' : Bool} → a ≡ a' → b ≡ b' → (a && b) ≡ (a' && b')
both p q = λ i. p i && q i

in_front : (a b c d : Bool) → (a && (b && (c && d))) ≡ ((a && (b && c)) && d)
in_front false b c d = refl
in_front true false c d = refl
in_front true true c d = refl

-- ---- "the profile may have 14 bytes"

-- of any other length than 13 and 14 none is good
pub other_length : (p : Bytes) → ¬ (length p ≡ 13) → ¬ (length p ≡ 14) → good_profile p ≡ false
unfolding good_profile
other_length p m n = rw (ne_eqb (length p) 13 m, ne_eqb (length p) 14 n)

-- with 13 bytes the fourteenth test passes, since a byte past the end is 0
low_13 : (p : Bytes) → length p ≡ 13 → low_bytes p ≡ all_below (λ k. leb (get_or p k 0) (most_of k)) 13
low_13 p h = let none : get_or p CopperBulb 0 ≡ 0 = get_or-eq_default p 0 (omega arith) in rw (none, and-true) refl

-- 13 bytes with a fourteenth are good where the 13 are, and the bulb's is at most 31
pub good_with_bulb : (p : Bytes) (b : ℕ) → length p ≡ 13 → good_profile (with_bulb p b) ≡ (good_profile p && leb b 31)
unfolding good_profile
good_with_bulb p b h =
    let good : good_length (with_bulb p b) ≡ good_length p =
    ap (λ n. eqb n 13 || eqb n 14) (length_with_bulb p b h) ∙ sym (ap (λ n. eqb n 13 || eqb n 14) h) in
    let air : eqb (get_or (with_bulb p b) 0 0) 0 ≡ eqb (get_or p 0 0) 0 = ap (λ n. eqb n 0) (kind_byte p b h 0 (λ e. omega arith)) in
    let others : all_below (λ k. leb (get_or (with_bulb p b) k 0) (most_of k)) 13 ≡ low_bytes p =
    all_same _ _ 13 (λ k l. ap (λ n. leb n (most_of k)) (kind_byte p b h k (λ e. omega arith))) ∙ sym (low_13 p h) in
    let low : low_bytes (with_bulb p b) ≡ (low_bytes p && leb b 31) = both others (ap (λ n. leb n 31) (bulb_byte p b h)) in
    both good (both air low) ∙ in_front (good_length p) (eqb (get_or p 0 0) 0) (low_bytes p) (leb b 31)

-- ---- number 1 with 13 bytes

module _ (p : Bytes) (h13 : length p ≡ 13) where
  thirteen : good_profile p ≡ (eqb (get_or p 0 0) 0 && all_below (λ k. leb (get_or p k 0) (most_of k)) 13)
  unfolding good_profile
  thirteen = rw (low_13 p h13, h13) refl

  -- "Number 1 now lets the torch's byte reach 63": up to there a profile is good where without the value it was,
  pub reach_63 : get_or p RedstoneTorch 0 ≤ 63 → good_profile p ≡ good_profile01 (without_value p)
  reach_63 h =
      let long : length (without_value p) ≡ 13 = length-set p RedstoneTorch (get_or p RedstoneTorch 0 % 32) ∙ h13 in
      rw (thirteen, long) (both (ap (λ n. eqb n 0) (sym (other_byte p 0 (λ e. omega arith)))) (all_same _ _ 13 at_most))
    where
      at_most : (k : ℕ) → k < 13 → leb (get_or p k 0) (most_of k) ≡ leb (get_or (without_value p) k 0) 31
      at_most k l =
          by_cases (ℕ_discrete k RedstoneTorch)
          (λ e. rw (e, torch_byte p, le-leb (get_or p RedstoneTorch 0) 63 h, le-leb (get_or p RedstoneTorch 0 % 32) 31 (omega arith)) refl)
          (λ n. rw (ne_eqb k RedstoneTorch n, other_byte p k n) refl)

  -- Without the value number 1 falls where it did.
  pub same_number_1 : torch_charges_above p ≡ false → good_profile p ≡ good_profile01 p
  unfolding says
  same_number_1 clear = rw (thirteen, h13) (ap (λ low. eqb (get_or p 0 0) 0 && low) (all_same _ _ 13 at_most))
    where
      -- from 32 to 63 the value is there
      past : 31 < get_or p RedstoneTorch 0 → 63 < get_or p RedstoneTorch 0
      past l = by_cases (dec_lt 63 (get_or p RedstoneTorch 0)) (λ g. g) (λ n. absurd (eqb-false (get_or p RedstoneTorch 0 / 32 % 2) 1 clear (omega arith)))

      torch_at_most : leb (get_or p RedstoneTorch 0) 63 ≡ leb (get_or p RedstoneTorch 0) 31
      torch_at_most =
          by_cases (dec_lt 31 (get_or p RedstoneTorch 0)) (λ l. rw (lt-leb (get_or p RedstoneTorch 0) 31 l, lt-leb (get_or p RedstoneTorch 0) 63 (past l)) refl)
          (λ n. rw (le-leb (get_or p RedstoneTorch 0) 31 (omega arith), le-leb (get_or p RedstoneTorch 0) 63 (omega arith)) refl)

      at_most : (k : ℕ) → k < 13 → leb (get_or p k 0) (most_of k) ≡ leb (get_or p k 0) 31
      at_most k l = by_cases (ℕ_discrete k RedstoneTorch) (λ e. rw e torch_at_most) (λ n. rw (ne_eqb k RedstoneTorch n) refl)

-- ---- and with any number of them

-- Past 63 none is good.
pub past_63 : (p : Bytes) → 63 < get_or p RedstoneTorch 0 → good_profile p ≡ false
unfolding good_profile
past_63 p h =
    let high = all_fails (λ k. leb (get_or p k 0) (most_of k)) 14 RedstoneTorch (omega arith) (lt-leb (get_or p RedstoneTorch 0) 63 h) in
    and_false_right (good_length p) _ (and_false_right (eqb (get_or p 0 0) 0) _ high)
