-- Laws of the fields of a row. A row is good where each of its fields is; and where it agrees with a good row outside certain bytes,
-- and the fields with such a byte are good.
-- Assumes nothing.
use mathlib.Core.Path.{◌≡◌, refl, ap, sym, ◌∙◌}
use mathlib.Core.Bool.{Bool, true, false, not, ◌&&◌, ◌||◌, true≢false, and_assoc, and-false}
use Prim.Native.Nat.{ℕ, ◌+◌, ◌≤◌, ◌<◌}
use native.Mathlib.Nat.{zero-add}
use native.Mathlib.Omega.{arith}
use lib.Dec.{eqb, leb}
use lib.IntN.{ℤ, pos, negsuc}
use lib.Signed.{le_z, mag}
use borrow.Author.Tests.{leb-true, not-true, not-false}
use Rattle.columns.specs.Column.{Bytes, part}
use Rattle.columns.specs.First.{all_below}
use Rattle.columns.proofs.First.{all_at}
use Rattle.columns.proofs.Truth.{and_true}
use Rattle.places.specs.declared.Pos.{Pos}
use Rattle.places.proofs.Steps.{InRange}
use Rattle.world.specs.Rows.{byte_of, word_of, pos_of, level_or}
use Rattle.world.proofs.Lent.{part_byte as lent_byte}
use Rattle.layout.specs.Good.{in_range, good_place, good_value, good_support, good_arms, good_row}

-- ---- the fields

pub data Field : Type 0 where
  Place Kind Facing Powered Level Delay Support Arms Shape Mode Zero30 Zero31 : Field

-- the first byte of a field, and how many it has
abbrev first : Field → ℕ
first Place = 0
first Kind = 12
first Facing = 13
first Powered = 14
first Level = 15
first Delay = 17
first Support = 19
first Arms = 23
first Shape = 28
first Mode = 29
first Zero30 = 30
first Zero31 = 31

abbrev width : Field → ℕ
width Place = 12
width Kind = 1
width Facing = 1
width Powered = 1
width Level = 2
width Delay = 2
width Support = 4
width Arms = 5
width Shape = 1
width Mode = 1
width Zero30 = 1
width Zero31 = 1

-- field f of row i is within the layout
abbrev pub good_field : Bytes → ℕ → Field → Bool
good_field t i Place = good_place (pos_of t i)
good_field t i Kind = leb 1 (byte_of t i 12) && leb (byte_of t i 12) 13
good_field t i Facing = leb (byte_of t i 13) 6
good_field t i Powered = leb (byte_of t i 14) 2
good_field t i Level = good_value t i 15
good_field t i Delay = good_value t i 17
good_field t i Support = good_support t i
good_field t i Arms = good_arms t i
good_field t i Shape = leb (byte_of t i 28) 6
good_field t i Mode = leb (byte_of t i 29) 1
good_field t i Zero30 = eqb (byte_of t i 30) 0
good_field t i Zero31 = eqb (byte_of t i 31) 0

-- the test holds of every field
abbrev pub every_field : (Field → Bool) → Bool
every_field test =
    test Place
    && (test Kind
    && (test Facing
    && (test Powered
    && (test Level && (test Delay && (test Support && (test Arms && (test Shape && (test Mode && (test Zero30 && test Zero31))))))))))

module _ (test : Field → Bool) where
  fails : (f : Field) → test f ≡ false → every_field test ≡ false
  fails Place e = rw e
  fails Kind e = simp (e, and-false)
  fails Facing e = simp (e, and-false)
  fails Powered e = simp (e, and-false)
  fails Level e = simp (e, and-false)
  fails Delay e = simp (e, and-false)
  fails Support e = simp (e, and-false)
  fails Arms e = simp (e, and-false)
  fails Shape e = simp (e, and-false)
  fails Mode e = simp (e, and-false)
  fails Zero30 e = simp (e, and-false)
  fails Zero31 e = simp (e, and-false)

  every_at : every_field test ≡ true → (f : Field) → test f ≡ true
  every_at h f = go (test f) refl
    where
      go : (b : Bool) → test f ≡ b → test f ≡ true
      go true e = e
      go false e = absurd (true≢false (sym h ∙ fails f e))

  at_every : ((f : Field) → test f ≡ true) → every_field test ≡ true
  at_every h = rw (h Place, h Kind, h Facing, h Powered, h Level, h Delay, h Support, h Arms, h Shape, h Mode, h Zero30, h Zero31)

-- ---- a good row

module _ (t : Bytes) (i : ℕ) where
  fieldwise : good_row t i ≡ every_field (good_field t i)
  unfolding good_row
  fieldwise = simp and_assoc

  pub good-field : good_row t i ≡ true → (f : Field) → good_field t i f ≡ true
  good-field h = every_at (good_field t i) (sym fieldwise ∙ h)

  pub good-row : ((f : Field) → good_field t i f ≡ true) → good_row t i ≡ true
  good-row h = fieldwise ∙ at_every (good_field t i) h

range : (c : ℤ) → in_range c ≡ true → mag c ≤ 1000000
range (pos n) h = let (_, b) = and_true (le_z (negsuc 999999) (pos n)) (le_z (pos n) (pos 1000000)) h in leb-true n 1000000 b
range (negsuc n) h =
    let (a, _) = and_true (le_z (negsuc 999999) (negsuc n)) (le_z (negsuc n) (pos 1000000)) h in
    omega (arith, leb-true n 999999 a)

pub good_range : (q : Pos) → good_place q ≡ true → InRange q
unfolding good_place
good_range q h =
    let (xy, c) = and_true (in_range q.x && in_range q.y) (in_range q.z) h in
    let (a, b) = and_true (in_range q.x) (in_range q.y) xy in
    record { x = range q.x a; y = range q.y b; z = range q.z c }

-- ---- two rows that agree

module _ (t u : Bytes) (i j : ℕ) where
  -- row j of u has the field f of row i of t
  abbrev SameField : Field → Type 0
  SameField f = (k : ℕ) → k < width f → byte_of u j (first f + k) ≡ byte_of t i (first f + k)

  place_byte : SameField Place → (b : ℕ) → b < 12 → byte_of u j b ≡ byte_of t i b
  place_byte h b l = rw zero-add at (h b l)

  same_word : SameField Place → (b : ℕ) → b + 3 < 12 → word_of u j b ≡ word_of t i b
  same_word h b l =
      let same = place_byte h in
      rw (same b (omega arith), same (b + 1) (omega arith), same (b + 2) (omega arith), same (b + 3) (omega arith))

  pub same_place : SameField Place → pos_of u j ≡ pos_of t i
  unfolding pos_of
  same_place h = rw (same_word h 0 (omega arith), same_word h 4 (omega arith), same_word h 8 (omega arith))

  same_field : (f : Field) → SameField f → good_field u j f ≡ good_field t i f
  same_field Place h = ap good_place (same_place h)
  same_field Kind h = rw (h 0 (omega arith))
  same_field Facing h = rw (h 0 (omega arith))
  same_field Powered h = rw (h 0 (omega arith))
  same_field Level h = rw (h 0 (omega arith), h 1 (omega arith))
  same_field Delay h = rw (h 0 (omega arith), h 1 (omega arith))
  same_field Support h = rw (h 0 (omega arith), h 1 (omega arith), h 2 (omega arith), h 3 (omega arith))
  same_field Arms h = rw (h 0 (omega arith), h 1 (omega arith), h 2 (omega arith), h 3 (omega arith), h 4 (omega arith))
  same_field Shape h = rw (h 0 (omega arith))
  same_field Mode h = rw (h 0 (omega arith))
  same_field Zero30 h = rw (h 0 (omega arith))
  same_field Zero31 h = rw (h 0 (omega arith))

inside : (f : Field) → first f + width f ≤ 32
inside f = leb-true (first f + width f) 32 (every_at (λ f. leb (first f + width f) 32) refl f)

-- two rows with the same bytes are good alike
pub good_same : (t u : Bytes) (i j : ℕ) → ((b : ℕ) → b < 32 → byte_of u j b ≡ byte_of t i b) → good_row u j ≡ good_row t i
good_same t u i j agree =
    let same : (f : Field) → good_field u j f ≡ good_field t i f = λ f. same_field t u i j f (λ k l. agree (first f + k) (omega (arith, inside f))) in
    fieldwise u j
    ∙ rw (same Place, same Kind, same Facing, same Powered, same Level, same Delay, same Support, same Arms, same Shape, same Mode, same Zero30, same Zero31)
    (sym (fieldwise t i))

-- ---- a row by itself

module _ (t : Bytes) (i : ℕ) where
  -- it has the bytes that it has in the table
  pub part_byte : (b : ℕ) → b < 32 → byte_of (part 32 t i) 0 b ≡ byte_of t i b
  part_byte = lent_byte t i

  -- and stands where it stands there
  pub part_place : pos_of (part 32 t i) 0 ≡ pos_of t i
  part_place = same_place t (part 32 t i) i 0 (λ k l. part_byte (0 + k) (omega arith))

  -- it is good where it is good there
  pub part_good : good_row (part 32 t i) 0 ≡ good_row t i
  part_good = good_same t (part 32 t i) i 0 part_byte

-- ---- a row that agrees with a good one outside the bytes that `changed` names

-- a byte of the field is changed
abbrev pub is_touched : (ℕ → Bool) → Field → Bool
is_touched changed f = not (all_below (λ k. not (changed (first f + k))) (width f))

-- the field of row i is good, if a byte of it is changed
abbrev good_if_touched : (ℕ → Bool) → Bytes → ℕ → Field → Bool
good_if_touched changed t i f = not (is_touched changed f) || good_field t i f

-- every field of row i with a changed byte is good
abbrev pub good_touched : (ℕ → Bool) → Bytes → ℕ → Bool
good_touched changed t i = every_field (good_if_touched changed t i)

module _ (changed : ℕ → Bool) (t u : Bytes) (i j : ℕ) (agree : (b : ℕ) → b < 32 → changed b ≡ false → byte_of u j b ≡ byte_of t i b) where
  untouched : (f : Field) → is_touched changed f ≡ false → SameField t u i j f
  untouched f h k l =
      agree (first f + k) (omega (arith, inside f))
      (not-true _ (all_at (λ k. not (changed (first f + k))) (width f) (not-false _ h) k l))

  -- its position is the same where no byte of that is changed
  pub place_again : is_touched changed Place ≡ false → pos_of u j ≡ pos_of t i
  place_again h = same_place t u i j (untouched Place h)

  -- and so is its power level
  pub level_again : is_touched changed Level ≡ false → (other : ℕ) → level_or u j other ≡ level_or t i other
  level_again h other = let same = untouched Level h in rw (same 0 (omega arith), same 1 (omega arith)) refl

  -- it is good where its changed fields are
  pub good_again : good_touched changed u j ≡ true → good_row t i ≡ true → good_row u j ≡ true
  good_again g h = good-row u j (λ f. go f (is_touched changed f) refl (every_at (good_if_touched changed u j) g f))
    where
      go : (f : Field) (b : Bool) → is_touched changed f ≡ b → (not b || good_field u j f) ≡ true → good_field u j f ≡ true
      go f true e r = r
      go f false e r = same_field t u i j f (untouched f e) ∙ good-field t i h f
