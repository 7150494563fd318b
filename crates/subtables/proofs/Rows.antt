-- Laws of some rows of a table, as a table: its rows are these rows.
-- Assumes nothing.
use mathlib.Core.Path.{◌≡◌, refl, ap, sym, ◌∙◌}
use mathlib.Core.Bool.{Bool, true, false}
use mathlib.Core.List.{List, [], ◌∷◌, ◌++◌, append_assoc}
use Prim.Native.Nat.{ℕ, zero, suc, ◌+◌, ◌*◌, ◌≤◌, ◌<◌}
use native.Mathlib.Nat.{not-suc-le-zero, zero-add, min-le_left}
use native.Mathlib.Omega.{arith}
use lib.ListN.{length, get_or, drop, length-append, length-take, take-append-drop, drop_of_length-le}
use lib.Seq.{take_at, drop_at, drop-drop}
use Rattle.columns.specs.Column.{Bytes, row, part}
use Rattle.columns.specs.First.{indices_from}
use Rattle.columns.proofs.Parts.{length_part, part_at}
use Rattle.columns.proofs.Indices.{index_kept, indices_rise}
use Rattle.world.specs.Rows.{rows, byte_of, pos_of}
use Rattle.layout.proofs.Fields.{place_again}
use Rattle.subtables.specs.Subtable.{table_of}

-- ---- one row more, and all rows

pub table_append : (t : Bytes) (is js : List ℕ) → table_of t (is ++ js) ≡ table_of t is ++ table_of t js
unfolding table_of
table_append t [] js = refl
table_append t (i ∷ is) js = ap (λ rest. part 32 t i ++ rest) (table_append t is js) ∙ sym (append_assoc (part 32 t i) (table_of t is) (table_of t js))

module _ (t : Bytes) (whole : length t ≡ rows t * 32) where
  table_from : (n i : ℕ) → i + n ≡ rows t → table_of t (indices_from (λ k. true) n i) ≡ drop (i * 32) t
  unfolding table_of indices_from
  table_from zero i e = sym (drop_of_length-le t {i = i * 32} (omega arith))
  table_from (suc n) i e =
      let next : (i + 1) * 32 ≡ i * 32 + 32 = omega arith in
      let later : table_of t (indices_from (λ k. true) n (i + 1)) ≡ drop 32 (drop (i * 32) t) =
      table_from n (i + 1) (omega arith) ∙ ap (λ k. drop k t) next ∙ sym (drop-drop 32 (i * 32) t) in
      ap (λ rest. part 32 t i ++ rest) later ∙ take-append-drop 32 (drop (i * 32) t)

  -- the table of all rows is the table
  pub table_all : table_of t (indices_from (λ k. true) (rows t) 0) ≡ t
  table_all = table_from (rows t) 0 (zero-add (rows t))

-- ---- the rows of the table

-- no longer than its rows would be
pub table_short : (t : Bytes) (is : List ℕ) → length (table_of t is) ≤ length is * 32
unfolding table_of
table_short t [] = omega arith
table_short t (i ∷ rest) = rw (length-append (part 32 t i) (table_of t rest)) (omega (arith, table_short t rest, take_short))
  where
    take_short : length (part 32 t i) ≤ 32
    take_short = rw (length-take 32 (drop (i * 32) t)) (min-le_left _ _)

-- numbers of rows of t, in rising order
pub record Numbers (t : Bytes) (is : List ℕ) : Type 0 where
  pub inside : (k : ℕ) → k < length is → row is k < rows t
  pub rise : (j k : ℕ) → j < k → k < length is → row is j < row is k

-- as are those of the rows at which a test holds
pub indices_numbers : (t : Bytes) (f : ℕ → Bool) → Numbers t (indices_from f (rows t) 0)
indices_numbers t f =
    record {
      inside = λ k l. rw zero-add at (index_kept f (rows t) 0 k l).below;
      rise = λ j k l m. indices_rise f (rows t) 0 j k l m;
    }

module _ (t : Bytes) where
  -- each row of t is whole
  row_whole : (i : ℕ) → i < rows t → length (part 32 t i) ≡ 32
  row_whole i l = length_part 32 t i (omega arith)

  long_from : (is : List ℕ) → ((k : ℕ) → k < length is → row is k < rows t) → length (table_of t is) ≡ length is * 32
  unfolding table_of
  long_from [] inside = refl
  long_from (i ∷ rest) inside =
      let first = row_whole i (inside 0 (omega arith)) in
      let later = long_from rest (λ k l. inside (suc k) (omega arith)) in
      rw (length-append (part 32 t i) (table_of t rest)) (omega (arith, first, later))

  part_from : (is : List ℕ) → ((k : ℕ) → k < length is → row is k < rows t) → (k : ℕ) → k < length is → part 32 (table_of t is) k ≡ part 32 t (row is k)
  unfolding table_of
  part_from [] inside k l = absurd (not-suc-le-zero l)
  part_from (i ∷ rest) inside zero l = take_at (part 32 t i) (table_of t rest) 32 (row_whole i (inside 0 (omega arith)))
  part_from (i ∷ rest) inside (suc k) l =
      let first = row_whole i (inside 0 (omega arith)) in
      let next : suc k * 32 ≡ 32 + k * 32 = omega arith in
      let past : drop (suc k * 32) (part 32 t i ++ table_of t rest) ≡ drop (k * 32) (table_of t rest) =
      ap (λ n. drop n (part 32 t i ++ table_of t rest)) next ∙ sym (drop-drop (k * 32) 32 (part 32 t i ++ table_of t rest)) ∙ ap (drop (k * 32)) (drop_at (part 32 t i) (table_of t rest) 32 first) in
      rw past (part_from rest (λ j m. inside (suc j) (omega arith)) k (omega arith))

module _ (t : Bytes) (is : List ℕ) (n : Numbers t is) where
  pub table_long : length (table_of t is) ≡ length is * 32
  table_long = long_from t is n.inside

  pub table_count : rows (table_of t is) ≡ length is
  table_count = omega (arith, table_long)

  pub table_whole : length (table_of t is) ≡ rows (table_of t is) * 32
  table_whole = omega (arith, table_long)

  module _ (k : ℕ) (l : k < length is) where
    pub table_part : part 32 (table_of t is) k ≡ part 32 t (row is k)
    table_part = part_from t is n.inside k l

    -- row k has the bytes of the row whose number is the k-th, and stands where it stands
    pub table_byte : (b : ℕ) → b < 32 → byte_of (table_of t is) k b ≡ byte_of t (row is k) b
    table_byte b m = sym (part_at 32 (table_of t is) k b m) ∙ ap (λ r. get_or r b 0) table_part ∙ part_at 32 t (row is k) b m

    pub table_place : pos_of (table_of t is) k ≡ pos_of t (row is k)
    table_place = place_again (λ _. false) t (table_of t is) (row is k) k (λ b m _. table_byte b m) refl
