-- Document 02, Change 4: what falls on a table by a profile of 13 bytes, and by one of 14; and Change 6, where there is none.
-- Assumes nothing.
use mathlib.Core.Path.{◌≡◌, refl, ap, sym, ◌∙◌}
use mathlib.Core.Logic.{by_cases}
use mathlib.Core.Bool.{Bool, true, false, not, ◌&&◌, true≢false, and-true, and-false}
use Prim.Native.Nat.{ℕ, ◌%◌, ◌≤◌, ◌<◌, zero-le}
use native.Mathlib.Nat.{add-zero}
use native.Mathlib.Decide.{dec_lt, ℕ_discrete}
use native.Mathlib.Omega.{arith}
use lib.ListN.{length, get_or-eq_default}
use lib.Dec.{leb, ltb}
use borrow.Author.Tests.{eq-eqb, leb-true, le-leb, le-ltb, lt-ltb}
use Rattle.columns.specs.declared.Found.TheVariants.{At}
use Rattle.columns.specs.Column.{Bytes}
use Rattle.columns.specs.First.{first_from}
use Rattle.columns.proofs.Truth.{and_true as both_true}
use Rattle.columns.proofs.First.{at_first, first_same}
use Rattle.blocks.specs.Kind.{CopperBulb}
use Rattle.blocks.proofs.Bulbs.{with_bulb, length_with_bulb}
use Rattle.world.specs.Rows.{rows, kind_of}
use Rattle.layout.specs.Good.{good_profile, good_row}
use Rattle.layout.proofs.Fields.{Kind, good-field}
use Rattle.layout.proofs.Profiles.{other_length, good_with_bulb}
use Rattle.refusals.specs.Check.{accepted, refused, is_bad, check_rows, check_table, check_input, IsAccepted}
use Rattle.refusals.proofs.Accepted.{accepted_input, accepted_kinds, table_accepted}

-- "with 13 a bulb row is number 4": where it is the first bad row
pub bulb_refused : (p t : Bytes) (i : ℕ) → good_profile p ≡ true → length p ≡ 13 → length t % 32 ≡ 0 → rows t ≤ 1024 → i < rows t
    → kind_of t i ≡ CopperBulb → ((j : ℕ) → j < i → is_bad 13 t j ≡ false) → check_input p t ≡ refused 4 i
unfolding check_input check_table check_rows
bulb_refused p t i good long whole few l bulb earlier =
    let bad : is_bad 13 t i ≡ true = rw (bulb, and-false (good_row t i)) refl in
    let first : first_from (is_bad 13 t) (rows t) 0 ≡ At i =
    at_first (is_bad 13 t) (rows t) 0 i (record { from = zero-le; inside = omega arith; holds = bad; earlier = λ j _ m. earlier j m }) in
    rw (good, eq-eqb (length t % 32) 0 whole, le-leb (rows t) 1024 few, long, first) (ap (refused 4) (add-zero i))

module _ (p t : Bytes) (long : length p ≡ 13) where
  -- a table that is accepted with 13 bytes has no bulb, in its rows or past them
  pub no_bulb : IsAccepted p t → (i : ℕ) → ¬ (kind_of t i ≡ CopperBulb)
  no_bulb h i e =
      by_cases (dec_lt i (rows t)) (λ l. omega (arith, accepted_kinds p t h i l))
      (λ n.
      let past : kind_of t i ≡ 0 = get_or-eq_default t 0 (omega (arith, (accepted_input p t h).1.whole)) in
      omega arith)

-- On a table without bulbs a fourteenth byte of at most 31 makes no difference: what falls on the table, and at which row, is the same.
pub check_with_bulb : (p t : Bytes) → length p ≡ 13 → ((i : ℕ) → i < rows t → ¬ (kind_of t i ≡ CopperBulb)) → (b : ℕ) → b ≤ 31
    → check_input (with_bulb p b) t ≡ check_input p t
unfolding check_input check_table check_rows
check_with_bulb p t long none b low =
    let good : good_profile (with_bulb p b) ≡ good_profile p = good_with_bulb p b long ∙ rw (le-leb b 31 low) (and-true (good_profile p)) in
    let found : first_from (is_bad 14 t) (rows t) 0 ≡ first_from (is_bad 13 t) (rows t) 0 =
    first_same (is_bad 14 t) (is_bad 13 t) (rows t) 0 (λ i _ l. same_bad i (none i (omega arith))) in
    rw (good, length_with_bulb p b long, long, found) refl
  where
    below : (k : ℕ) → ¬ (k ≡ CopperBulb) → ltb k 14 ≡ ltb k 13
    below k n =
        by_cases (dec_lt k 13) (λ l. rw (lt-ltb k 14 (omega arith), lt-ltb k 13 l) refl)
        (λ m. rw (le-ltb k 14 (omega arith), le-ltb k 13 (omega arith)) refl)

    same_bad : (i : ℕ) → ¬ (kind_of t i ≡ CopperBulb) → is_bad 14 t i ≡ is_bad 13 t i
    same_bad i n = rw (below (kind_of t i) n) refl

-- ---- with the kinds of 14 bytes, where no profile is given

-- "A bulb row counts as good here" (Change 6): a row is bad just where a field is outside the layout
pub bad_14 : (t : Bytes) (i : ℕ) → is_bad 14 t i ≡ not (good_row t i)
bad_14 t i = go (good_row t i) refl
  where
    go : (b : Bool) → good_row t i ≡ b → not (b && ltb (kind_of t i) 14) ≡ not b
    go true e = let (_, most) = both_true (leb 1 (kind_of t i)) (leb (kind_of t i) 13) (good-field t i e Kind) in ap not (lt-ltb (kind_of t i) 14 (omega (arith, leb-true (kind_of t i) 13 most)))
    go false e = refl

most_14 : (p : Bytes) → good_profile p ≡ true → length p ≤ 14
most_14 p g =
    by_cases (ℕ_discrete (length p) 13) (λ e. omega arith)
    (λ m. by_cases (ℕ_discrete (length p) 14) (λ e. omega arith) (λ n. absurd (true≢false (sym g ∙ other_length p m n))))

-- and a table that is accepted by whatever profile passes the tests
pub accepted_14 : (p t : Bytes) → IsAccepted p t → check_table 14 t ≡ accepted
accepted_14 p t h =
    let (good, table) = accepted_input p t h in
    table_accepted 14 t table (λ i l. omega (arith, accepted_kinds p t h i l, most_14 p good))
