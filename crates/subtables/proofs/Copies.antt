-- The loop that copies rows of a table to the front of another: what holds after i rows.
-- Assumes nothing.
use mathlib.Core.Path.{◌≡◌, refl, ap, sym, ◌∙◌}
use mathlib.Core.Bool.{Bool, true, false}
use mathlib.Core.List.{[], ◌∷◌, ◌++◌, append_assoc, append-nil}
use Prim.Native.Nat.{ℕ, ◌+◌, ◌*◌, ◌≤◌}
use native.Mathlib.Omega.{arith}
use lib.ListN.{length, drop, length-append}
use lib.Seq.{take_at, drop_at, drop-drop}
use borrow.Rule.Slice.PartMut.{put_mid, same_len_mid}
use Rattle.columns.specs.Column.{Bytes, part, at_front}
use Rattle.columns.specs.First.{indices_from}
use Rattle.columns.proofs.Parts.{length_part}
use Rattle.columns.proofs.Indices.{indices_more}
use Rattle.subtables.specs.Subtable.{table_of}
use Rattle.subtables.proofs.Rows.{table_append}

-- those of the first i rows at which f holds are at the front of the output, and nothing else of it has changed
pub record Copied (t : Bytes) (f : ℕ → Bool) (old : Bytes) (i : ℕ) (now : Bytes) (count : ℕ) : Type 0 where
  pub counted : count ≡ length (indices_from f i 0)
  pub few : count ≤ i
  pub front : length (table_of t (indices_from f i 0)) ≡ count * 32
  pub long : length now ≡ length old
  pub is : now ≡ at_front (table_of t (indices_from f i 0)) old

pub copied_none : {t : Bytes} {f : ℕ → Bool} {old : Bytes} → Copied t f old 0 old 0
unfolding indices_from table_of
copied_none = record { counted = refl; few = omega arith; front = refl; long = refl; is = refl }

module _ {t : Bytes} {f : ℕ → Bool} {old : Bytes} {i : ℕ} {now : Bytes} {count : ℕ} (h : Copied t f old i now count) where
  pub copied_pass : f i ≡ false → Copied t f old (i + 1) now count
  copied_pass e =
      let same : indices_from f (i + 1) 0 ≡ indices_from f i 0 = rw (indices_more f i, e, append-nil) in
      record {
        counted = rw same h.counted;
        few = omega (arith, h.few);
        front = rw same h.front;
        long = h.long;
        is = rw same h.is;
      }

  pub copied_more : f i ≡ true → i * 32 + 32 ≤ length t → length t ≤ length old → Copied t f old (i + 1) (put_mid (count * 32) 32 now (part 32 t i)) (count + 1)
  unfolding table_of
  copied_more e l room =
      let more : indices_from f (i + 1) 0 ≡ indices_from f i 0 ++ (i ∷ []) = rw (indices_more f i, e) in
      let front = table_of t (indices_from f i 0) in
      let table : table_of t (indices_from f (i + 1) 0) ≡ front ++ part 32 t i =
      ap (table_of t) more ∙ table_append t (indices_from f i 0) (i ∷ []) ∙ ap (λ r. front ++ r) (append-nil (part 32 t i)) in
      let own : length (part 32 t i) ≡ 32 = length_part 32 t i l in
      let size : length (table_of t (indices_from f (i + 1) 0)) ≡ (count + 1) * 32 = ap length table ∙ length-append front (part 32 t i) ∙ omega (arith, h.front, own) in
      let fits : count * 32 + 32 ≤ length now = omega (arith, h.few, h.long) in
      let rest : drop (length (table_of t (indices_from f (i + 1) 0))) old ≡ drop 32 (drop (length front) old) =
      ap (λ n. drop n old) (ap length table ∙ length-append front (part 32 t i) ∙ ap (λ n. length front + n) own) ∙ sym (drop-drop 32 (length front) old) in
      record {
        counted = rw (more, length-append) (omega (arith, h.counted));
        few = omega (arith, h.few);
        front = size;
        long = same_len_mid (count * 32) 32 now (part 32 t i) (own ∙ sym (length_part 32 now count fits)) ∙ h.long;
        is =
            rw (h.is, take_at front (drop (length front) old) (count * 32) h.front, drop_at front (drop (length front) old) (count * 32) h.front, rest, table)
            (sym (append_assoc front (part 32 t i) _));
      }
