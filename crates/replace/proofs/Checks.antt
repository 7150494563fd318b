-- Laws of the tests of a replacement: what an accepted call has, that no other call is accepted, and that the tests of the new row are those that the
-- table would be put to with that row in it.
-- Assumes nothing.
use mathlib.Core.Path.{◌≡◌, refl, sym, ◌∙◌}
use mathlib.Core.Bool.{true, false}
use Prim.Native.Nat.{ℕ, ◌+◌, ◌*◌, ◌-◌, ◌%◌, ◌<◌}
use native.Mathlib.Omega.{arith}
use lib.Dec.{eqb, ltb}
use lib.ListN.{length}
use borrow.Author.Tests.{eqb-true, eq-eqb, ne_eqb, le-leb, ltb-true, lt-ltb}
use Rattle.columns.specs.Column.{Bytes}
use Rattle.columns.proofs.First.{none_first, only_at}
use Rattle.columns.proofs.Truth.{and_true}
use Rattle.places.specs.Places.{same_pos}
use Rattle.places.proofs.Order.{same_pos_true, same_pos_refl}
use Rattle.world.specs.Rows.{rows, pos_of, kind_of}
use Rattle.layout.proofs.Fields.{level_again, good_same}
use Rattle.refusals.specs.Accepted.{Table}
use Rattle.refusals.specs.Check.{accepted, refused, or_else, is_bad, is_misplaced, is_overdriven, check_rows, check_table, check_input, IsAccepted}
use Rattle.refusals.proofs.Accepted.{accepted_input, accepted_kinds, not_driven}
use Rattle.refusals.proofs.Passed.{refuse_only, passed_both, passed_unless, passed_row_unless}
use Rattle.feeding.specs.Feeders.{is_list_length}
use Rattle.feeding.specs.Replaced.{replaced}
use Rattle.feeding.proofs.Replacing.{Replaceable, replaced_length, replaced_rows, own_byte, other_byte, replaced_place}
use Rattle.replace.specs.Replace.{is_good_new, stands_at_row, check_new, check_replace}

-- ---- the table with the new row in it

module _ (p : Bytes) {t : Bytes} (h : IsAccepted p t) {n : ℕ} {new : Bytes} (r : Replaceable t n new) where
  abbrev after : Bytes
  after = replaced t n new

  abbrev kinds : ℕ
  kinds = length p

  table : Table t
  table = (accepted_input p t h).1

  own_bad : is_bad kinds after n ≡ is_bad kinds new 0
  own_bad = rw (good_same new after 0 n (own_byte r), own_byte r 12 (omega arith))

  other_bad : (i : ℕ) → i < rows t → ¬ (i ≡ n) → is_bad kinds after i ≡ false
  other_bad i l o =
      rw (good_same t after i i (other_byte r i l o), table.good i l, other_byte r i l o 12 (omega arith), lt-ltb (kind_of t i) kinds (accepted_kinds p t h i l))

  own_driven : is_overdriven after n ≡ is_overdriven new 0
  own_driven = rw (own_byte r 12 (omega arith), level_again (λ _. false) new after 0 n (λ b m _. own_byte r b m) refl 0)

  other_driven : (i : ℕ) → i < rows t → ¬ (i ≡ n) → is_overdriven after i ≡ false
  other_driven i l o =
      rw (other_byte r i l o 12 (omega arith), level_again (λ _. false) t after i i (λ b m _. other_byte r i l o b m) refl 0) (not_driven t table i l)

  in_place : (i : ℕ) → i < rows t - 1 → is_misplaced after i ≡ false
  in_place i l = rw (replaced_place r i (omega arith), replaced_place r (i + 1) (omega arith), table.ordered i (omega arith))

  -- the tests of the new row are those of the table after it: number and row are the same
  pub new_checked : check_input p after ≡ check_new (length p) t n new
  unfolding check_input check_table check_rows check_new
  new_checked =
      let ragged : length after % 32 ≡ 0 = rw (replaced_length r) (omega arith) in
      let stands : same_pos (pos_of t n) (pos_of new 0) ≡ true = rw r.place (same_pos_refl (pos_of t n)) in
      rw (
        (accepted_input p t h).0,
        eq-eqb (length after % 32) 0 ragged,
        replaced_rows r,
        le-leb (rows t) 1024 table.few,
        only_at (is_bad kinds after) (rows t) n r.inside other_bad,
        own_bad,
        none_first (is_misplaced after) (rows t - 1) 0 (λ i _ l. in_place i (omega arith)),
        only_at (is_overdriven after) (rows t) n r.inside other_driven,
        own_driven,
        refuse_only 4 n (is_bad kinds new 0),
        refuse_only 10 n (is_overdriven new 0),
        eq-eqb (length new) 32 r.long,
        lt-ltb n (rows t) r.inside,
        stands,
      )
      refl

-- ---- what an accepted call has

module _ (p t : Bytes) (n : ℕ) (new : Bytes) (count : ℕ) where
  pub record Given : Type 0 where
    pub input : IsAccepted p t
    pub replaceable : Replaceable t n new
    pub new_input : IsAccepted p (replaced t n new)
    pub list_long : count ≡ rows t * 12

  new_replaceable : check_new (length p) t n new ≡ accepted → Replaceable t n new
  unfolding check_new
  new_replaceable h =
      let (good, g) = passed_row_unless 4 n (is_good_new (length p) new) _ h in
      let (stands, _) = passed_row_unless 5 n (stands_at_row t n new) _ g in
      let (long, _) = and_true (eqb (length new) 32) _ good in
      let (inside, same) = and_true (ltb n (rows t)) _ stands in
      record { inside = ltb-true n (rows t) inside; long = eqb-true (length new) 32 long; place = sym (same_pos_true (pos_of t n) (pos_of new 0) same) }

  pub given : check_replace p t n new count ≡ accepted → Given
  unfolding check_replace
  given h =
      let (tests, rest) = passed_both (or_else (check_input p t) (check_new (length p) t n new)) _ h in
      let (input, new_row) = passed_both (check_input p t) _ tests in
      let (sized, _) = passed_unless 7 (is_list_length t count) _ rest in
      let r = new_replaceable new_row in
      record { input = input; replaceable = r; new_input = new_checked p input r ∙ new_row; list_long = eqb-true count (rows t * 12) sized }

  -- a call is accepted just where the old table is, there is a row n, the new one has 32 bytes and stands there, the table with it is accepted, and the
  -- list has twelve entries a row
  pub replace_accepted : Given → check_replace p t n new count ≡ accepted
  unfolding check_replace
  replace_accepted g =
      let new_row : check_new (length p) t n new ≡ accepted = sym (new_checked p g.input g.replaceable) ∙ g.new_input in
      rw (g.input, new_row, eq-eqb count (rows t * 12) g.list_long) refl

  -- ---- where each number falls

  -- What falls on the profile or the old table falls on the call,
  pub input_refused : {m i : ℕ} → check_input p t ≡ refused m i → check_replace p t n new count ≡ refused m i
  unfolding check_replace
  input_refused h = rw h refl

  module _ (h : IsAccepted p t) where
    -- then "a bad new row, or one not of 32 bytes, is number 4",
    pub bad_refused : is_good_new (length p) new ≡ false → check_replace p t n new count ≡ refused 4 n
    unfolding check_replace check_new
    bad_refused bad = rw (h, bad) refl

    module _ (good : is_good_new (length p) new ≡ true) where
      -- "another position or no such row 5",
      pub place_refused : stands_at_row t n new ≡ false → check_replace p t n new count ≡ refused 5 n
      unfolding check_replace check_new
      place_refused away = rw (h, good, away) refl

      -- "an overdriven new row 10",
      pub overdriven_refused : stands_at_row t n new ≡ true → is_overdriven new 0 ≡ true → check_replace p t n new count ≡ refused 10 n
      unfolding check_replace check_new
      overdriven_refused there driven = rw (h, good, there, driven) refl

    -- "then a wrong list length 7", row 0
    pub length_refused : check_new (length p) t n new ≡ accepted → ¬ (count ≡ rows t * 12) → check_replace p t n new count ≡ refused 7 0
    unfolding check_replace
    length_refused new_row wrong = rw (h, new_row, ne_eqb count (rows t * 12) wrong) refl
