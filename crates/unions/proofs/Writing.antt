-- The walk that writes: what holds of the output after some steps.
-- Assumes nothing.
use mathlib.Core.Path.{◌≡◌, refl, ap, sym, ◌∙◌}
use mathlib.Core.List.{[], ◌++◌, append_assoc}
use Prim.Native.Nat.{ℕ, ◌+◌, ◌*◌, ◌≤◌}
use native.Mathlib.Nat.{add-zero}
use native.Mathlib.Omega.{arith}
use lib.ListN.{length, take, drop, length-append, take-append-drop}
use lib.Seq.{length-take-le, take_at, drop_at, drop-drop}
use borrow.Rule.Slice.PartMut.{put_mid, same_len_mid}
use Rattle.columns.specs.Column.{Bytes, at_front}
use Rattle.columns.proofs.Parts.{length_part}
use Rattle.world.specs.Rows.{rows}
use Rattle.unions.specs.declared.Next.{Next}
use Rattle.unions.specs.declared.Next.TheVariants.{First, Second, Both}
use Rattle.unions.specs.Union.{rows_of, joined, union_rows}
use Rattle.unions.specs.Walk.{in_first, in_second, past, next_row, Within}
use Rattle.unions.proofs.Rows.{rows_left, none_left}
use Rattle.unions.proofs.Steps.{Step}

-- ---- bytes in the place of others

-- new bytes in the place of those from p on
abbrev put_from : ℕ → Bytes → Bytes → Bytes
put_from p new s = take p s ++ (new ++ drop (p + length new) s)

-- of 32 bytes and others after them, the 32 first
put_first : (p : ℕ) (r new s : Bytes) → length r ≡ 32 → p + 32 ≤ length s → put_from p (r ++ new) s ≡ put_from (p + 32) new (put_mid p 32 s r)
put_first p r new s long room =
    let front : length (take p s ++ r) ≡ p + 32 = length-append (take p s) r ∙ rw (length-take-le p s (omega arith), long) refl in
    let whole : put_mid p 32 s r ≡ (take p s ++ r) ++ drop (p + 32) s = rw (drop-drop 32 p s) (sym (append_assoc (take p s) r (drop (p + 32) s))) in
    let before : take (p + 32) (put_mid p 32 s r) ≡ take p s ++ r = rw whole (take_at (take p s ++ r) (drop (p + 32) s) (p + 32) front) in
    let after : drop (p + 32) (put_mid p 32 s r) ≡ drop (p + 32) s = rw whole (drop_at (take p s ++ r) (drop (p + 32) s) (p + 32) front) in
    let size : p + length (r ++ new) ≡ p + 32 + length new = rw (length-append r new, long) (omega arith) in
    let rest : drop (p + 32 + length new) (put_mid p 32 s r) ≡ drop (p + 32 + length new) s =
    sym (drop-drop (length new) (p + 32) (put_mid p 32 s r)) ∙ ap (drop (length new)) after ∙ drop-drop (length new) (p + 32) s in
    rw (size, before, rest) (ap (λ x. take p s ++ x) (append_assoc r new _) ∙ sym (append_assoc (take p s) r _))

-- ---- the walk

-- i rows of the first and j of the second are passed, and the n rows of both that they are written: with those that are left behind them the
-- output is the one that is promised
pub record Writing (a b out₀ : Bytes) (i j n : ℕ) (out : Bytes) : Type 0 where
  pub first_in : i ≤ rows a
  pub second_in : j ≤ rows b
  pub long : length out ≡ length out₀
  pub count : length (union_rows (rows_of a) (rows_of b)) ≡ n + length (union_rows (rows_left a i) (rows_left b j))
  pub is : at_front (joined (union_rows (rows_of a) (rows_of b))) out₀ ≡ put_from (n * 32) (joined (union_rows (rows_left a i) (rows_left b j))) out

-- a row that is taken has 32 bytes
length_next : (a b : Bytes) (next : Next) → Within a b next → length (next_row a b next) ≡ 32
length_next a b (First i) w = length_part 32 a i w
length_next a b (Second j) w = length_part 32 b j w
length_next a b (Both i j) w = length_part 32 a i w.0

module _ {a b out₀ : Bytes} {i j n : ℕ} {out : Bytes} (w : Writing a b out₀ i j n out) where
  module _ {next : Next} (s : Step a i b j next) (room : length (union_rows (rows_of a) (rows_of b)) * 32 ≤ length out₀) where
    -- there is room for the row
    pub writing_room : n * 32 + 32 ≤ length out
    writing_room =
        let one = ap length s.row in
        omega (arith, w.count, w.long, one, room)

    pub writing_more : {r : Bytes} → r ≡ next_row a b next → Writing a b out₀ (past (in_first next) i) (past (in_second next) j) (n + 1) (put_mid (n * 32) 32 out r)
    unfolding joined
    writing_more {r} e =
        let one = ap length s.row in
        let row = length_next a b next s.within in
        let next_place : (n + 1) * 32 ≡ n * 32 + 32 = omega arith in
        record {
          first_in = s.first_in;
          second_in = s.second_in;
          long = same_len_mid (n * 32) 32 out r (ap length e ∙ row ∙ sym (length_part 32 out n writing_room)) ∙ w.long;
          count = omega (arith, w.count, one);
          is = w.is ∙ rw (s.row, next_place, e) (put_first (n * 32) (next_row a b next) _ out row writing_room);
        }

  pub writing_all : rows a + rows b ≤ i + j → out ≡ at_front (joined (union_rows (rows_of a) (rows_of b))) out₀
  unfolding union_rows joined
  writing_all over =
      let first : rows_left a i ≡ [] = none_left a i (omega (arith, w.first_in, w.second_in)) in
      let second : rows_left b j ≡ [] = none_left b j (omega (arith, w.first_in, w.second_in)) in
      let is = rw (first, second, add-zero (n * 32)) at w.is in
      sym (is ∙ take-append-drop (n * 32) out)
