-- Laws of a table in which a row is replaced by one at the same position: as many rows, and each other row and every position as
-- it was.
-- Assumes nothing.
use mathlib.Core.Path.{◌≡◌, refl, ap, sym, ◌∙◌}
use mathlib.Core.Logic.{by_cases}
use mathlib.Core.Bool.{Bool, true, false, cond}
use Prim.Native.Nat.{ℕ, ◌*◌, ◌<◌}
use native.Mathlib.Decide.{ℕ_discrete}
use native.Mathlib.Omega.{arith}
use native.Mathlib.Nat.{zero-add}
use lib.Dec.{eqb}
use lib.ListN.{length, get_or}
use borrow.Author.Tests.{eq-eqb, ne_eqb, eqb-false}
use borrow.Rule.Slice.PartMut.{put_mid, put_same}
use Rattle.columns.specs.Column.{Bytes, part, concat_rows}
use Rattle.columns.proofs.Parts.{length_part, part_at, length_concat_rows, part_concat_rows, concat_rows_same, rows_put}
use Rattle.world.specs.Rows.{rows, byte_of, pos_of}
use Rattle.layout.proofs.Fields.{place_again, part_place}
use Rattle.feeding.specs.Replaced.{replaced}

-- "the row of a given number is replaced by a valid row at the same position": there is a row n, and the new one has 32 bytes and stands where it stood.
-- Whether it is valid makes no difference to these laws
pub record Replaceable (t : Bytes) (n : ℕ) (new : Bytes) : Type 0 where
  pub inside : n < rows t
  pub long : length new ≡ 32
  pub place : pos_of new 0 ≡ pos_of t n

module _ {t : Bytes} {n : ℕ} {new : Bytes} (r : Replaceable t n new) where
  abbrev rule : ℕ → Bytes
  rule i = cond (eqb i n) new (part 32 t i)

  rule_long : (i : ℕ) → i < rows t → length (rule i) ≡ 32
  rule_long i l = go (eqb i n)
    where
      go : (b : Bool) → length (cond b new (part 32 t i)) ≡ 32
      go true = r.long
      go false = length_part 32 t i (omega arith)

  pub replaced_length : length (replaced t n new) ≡ rows t * 32
  unfolding replaced
  replaced_length = length_concat_rows 32 rule (rows t) rule_long

  pub replaced_rows : rows (replaced t n new) ≡ rows t
  replaced_rows = rw replaced_length (omega arith)

  replaced_part : (i : ℕ) → i < rows t → part 32 (replaced t n new) i ≡ rule i
  unfolding replaced
  replaced_part = part_concat_rows 32 rule (rows t) rule_long

  -- row n is the new row, and every other one is as it was
  pub own_part : part 32 (replaced t n new) n ≡ new
  own_part = replaced_part n r.inside ∙ rw (eq-eqb n n refl)

  pub other_part : (i : ℕ) → i < rows t → ¬ (i ≡ n) → part 32 (replaced t n new) i ≡ part 32 t i
  other_part i l h = replaced_part i l ∙ rw (ne_eqb i n h)

  -- a table of whole rows in which the new row is written over the old
  pub replaced_put : length t ≡ rows t * 32 → put_mid (n * 32) 32 t new ≡ replaced t n new
  unfolding replaced
  replaced_put whole = rows_put 32 (rows t) t whole n r.inside new r.long

  -- ---- its bytes

  pub own_byte : (b : ℕ) → b < 32 → byte_of (replaced t n new) n b ≡ byte_of new 0 b
  own_byte b l =
      sym (part_at 32 (replaced t n new) n b l)
      ∙ ap (λ s. get_or s b 0) own_part
      ∙ ap (λ m. get_or new m 0) (sym (zero-add b))

  pub other_byte : (i : ℕ) → i < rows t → ¬ (i ≡ n) → (b : ℕ) → b < 32 → byte_of (replaced t n new) i b ≡ byte_of t i b
  other_byte i l h b m =
      sym (part_at 32 (replaced t n new) i b m)
      ∙ ap (λ s. get_or s b 0) (other_part i l h)
      ∙ part_at 32 t i b m

  -- ---- its positions

  own_place : pos_of (replaced t n new) n ≡ pos_of t n
  own_place = place_again (λ _. false) new (replaced t n new) 0 n (λ b m _. own_byte b m) refl ∙ r.place

  other_place : (i : ℕ) → i < rows t → ¬ (i ≡ n) → pos_of (replaced t n new) i ≡ pos_of t i
  other_place i l h = place_again (λ _. false) t (replaced t n new) i i (λ b m _. other_byte i l h b m) refl

  pub replaced_place : (i : ℕ) → i < rows t → pos_of (replaced t n new) i ≡ pos_of t i
  replaced_place i l = by_cases (ℕ_discrete i n) (λ e. rw e own_place) (other_place i l)

  -- ---- replaced again

  pub replaced_twice : (other : Bytes) → replaced (replaced t n new) n other ≡ replaced t n other
  unfolding replaced
  replaced_twice other =
      ap (λ k. concat_rows k (λ i. cond (eqb i n) other (part 32 (replaced t n new) i))) replaced_rows
      ∙ concat_rows_same (λ i. cond (eqb i n) other (part 32 (replaced t n new) i)) (λ i. cond (eqb i n) other (part 32 t i)) (rows t) (λ i l. go i l (eqb i n) refl)
    where
      go : (i : ℕ) → i < rows t → (b : Bool) → eqb i n ≡ b → cond b other (part 32 (replaced t n new) i) ≡ cond b other (part 32 t i)
      go i l true e = refl
      go i l false e = other_part i l (eqb-false i n e)

module _ (t : Bytes) (whole : length t ≡ rows t * 32) (n : ℕ) (inside : n < rows t) where
  itself : Replaceable t n (part 32 t n)
  itself = record { inside = inside; long = length_part 32 t n (omega arith); place = part_place t n }

  -- a row replaced by itself
  pub replaced_itself : replaced t n (part 32 t n) ≡ t
  replaced_itself = sym (replaced_put itself whole) ∙ put_same (n * 32) 32 t

  -- and one that is put back
  pub replaced_back : (new : Bytes) → Replaceable t n new → replaced (replaced t n new) n (part 32 t n) ≡ t
  replaced_back new r = replaced_twice r (part 32 t n) ∙ replaced_itself
