-- Laws of rows of one width that stand one after the other, and of the loop that lends each to be written.
-- Assumes nothing.
use mathlib.Core.Path.{◌≡◌, refl, ap, sym, ◌∙◌}
use mathlib.Core.List.{List, [], ◌++◌, append_assoc, append-nil}
use mathlib.Core.Logic.{by_cases}
use mathlib.Core.Bool.{cond}
use Prim.Native.Nat.{ℕ, zero, suc, ◌+◌, ◌*◌, ◌-◌, ◌≤◌, ◌<◌, zero-le}
use native.Mathlib.Decide.{dec_lt}
use native.Mathlib.Nat.{zero-mul, suc-mul, add-zero, not-suc-le-zero, zero-add, mul-le-mul_right}
use native.Mathlib.Numerals.{add-one}
use native.Mathlib.Omega.{arith}
use lib.Dec.{eqb}
use lib.ListN.{length, get_or, take, drop, set, length-append, length-drop, take-append-drop}
use lib.Seq.{length-take-le, take_at, drop_at, drop-drop, get_or-take, get_or-drop, drop-length, take-set-le, take-set-lt, drop-set-lt, drop-set-add}
use borrow.Rule.Slice.PartMut.{put_mid, put_same}
use borrow.Author.Tests.{eq-eqb, ne_eqb}
use Rattle.columns.specs.Column.{part, concat_rows_from, concat_rows}
use Rattle.columns.proofs.Members.{none_in}

-- a row of a list that is long enough is whole
pub length_part : (w : ℕ) (s : List ℕ) (i : ℕ) → i * w + w ≤ length s → length (part w s i) ≡ w
length_part w s i h = length-take-le w (drop (i * w) s) (rw length-drop (omega arith))

-- entry b of row i
pub part_at : (w : ℕ) (s : List ℕ) (i b : ℕ) → b < w → get_or (part w s i) b 0 ≡ get_or s (i * w + b) 0
part_at w s i b h = get_or-take w (drop (i * w) s) b 0 h ∙ get_or-drop (i * w) s b 0

-- one row more at the end
pub concat_rows_more : (n i : ℕ) (f : ℕ → List ℕ) → concat_rows_from i (n + 1) f ≡ concat_rows_from i n f ++ f (i + n)
unfolding concat_rows_from
concat_rows_more zero i f = rw (add-zero, append-nil)
concat_rows_more (suc n) i f =
    let e : suc n + 1 ≡ suc (n + 1) = omega arith in
    let k : suc i + n ≡ i + suc n = omega arith in
    rw (e, concat_rows_from, concat_rows_more n (suc i) f, append_assoc, k)

-- rows that are the same, joined
same_from : (f g : ℕ → List ℕ) (n i : ℕ) → ((k : ℕ) → k < n → f (i + k) ≡ g (i + k)) → concat_rows_from i n f ≡ concat_rows_from i n g
unfolding concat_rows_from
same_from f g zero i h = refl
same_from f g (suc n) i h =
    let e : f i ≡ g i = rw (add-zero i) at (h 0 (omega arith)) in
    rw (e, same_from f g n (suc i) (λ k l. let e : suc i + k ≡ i + suc k = omega arith in rw e (h (suc k) (omega arith))))

pub concat_rows_same : (f g : ℕ → List ℕ) (n : ℕ) → ((k : ℕ) → k < n → f k ≡ g k) → concat_rows n f ≡ concat_rows n g
concat_rows_same f g n h = same_from f g n 0 (λ k l. rw (zero-add k) (h k l))

module _ (w : ℕ) (f : ℕ → List ℕ) where
  length_from : (n i : ℕ) → ((k : ℕ) → k < n → length (f (i + k)) ≡ w) → length (concat_rows_from i n f) ≡ n * w
  unfolding concat_rows_from
  length_from zero i h = rw zero-mul
  length_from (suc n) i h =
      let e : length (f i) ≡ w = rw (add-zero i) at (h 0 (omega arith)) in
      let rest : length (concat_rows_from (suc i) n f) ≡ n * w =
      length_from n (suc i) (λ k l. let e : suc i + k ≡ i + suc k = omega arith in rw e (h (suc k) (omega arith))) in
      rw (length-append, e, rest, suc-mul) (omega arith)

  -- as long as its rows together
  pub length_concat_rows : (n : ℕ) → ((k : ℕ) → k < n → length (f k) ≡ w) → length (concat_rows n f) ≡ n * w
  length_concat_rows n h = length_from n 0 (λ k l. rw (zero-add k) (h k l))

  short_from : (n i : ℕ) → ((k : ℕ) → k < n → length (f (i + k)) ≤ w) → length (concat_rows_from i n f) ≤ n * w
  unfolding concat_rows_from
  short_from zero i h = zero-le
  short_from (suc n) i h =
      let first : length (f i) ≤ w = rw (add-zero i) at (h 0 (omega arith)) in
      let rest : length (concat_rows_from (suc i) n f) ≤ n * w =
      short_from n (suc i) (λ k l. let e : suc i + k ≡ i + suc k = omega arith in rw e (h (suc k) (omega arith))) in
      rw (length-append, suc-mul) (omega arith)

  -- no longer than rows of w would be, where none is longer
  pub concat_rows_short : (n : ℕ) → ((k : ℕ) → k < n → length (f k) ≤ w) → length (concat_rows n f) ≤ n * w
  concat_rows_short n h = short_from n 0 (λ k l. rw (zero-add k) (h k l))

  part_from : (n i : ℕ) → ((k : ℕ) → k < n → length (f (i + k)) ≡ w) → (j : ℕ) → j < n → part w (concat_rows_from i n f) j ≡ f (i + j)
  unfolding concat_rows_from
  part_from zero i h j l = absurd (not-suc-le-zero l)
  part_from (suc n) i h zero l =
      let e : length (f i) ≡ w = rw (add-zero i) at (h 0 (omega arith)) in
      rw (zero-mul, add-zero i) (take_at (f i) (concat_rows_from (suc i) n f) w e)
  part_from (suc n) i h (suc j) l =
      let e : length (f i) ≡ w = rw (add-zero i) at (h 0 (omega arith)) in
      let k : suc j * w ≡ w + j * w = suc-mul j w ∙ omega arith in
      let m : i + suc j ≡ suc i + j = omega arith in
      let past : drop (suc j * w) (f i ++ concat_rows_from (suc i) n f) ≡ drop (j * w) (concat_rows_from (suc i) n f) =
      ap (λ a. drop a (f i ++ concat_rows_from (suc i) n f)) k ∙ sym (drop-drop (j * w) w (f i ++ concat_rows_from (suc i) n f)) ∙ ap (drop (j * w)) (drop_at (f i) (concat_rows_from (suc i) n f) w e) in
      rw (past, m)
      (part_from n (suc i) (λ k l. let e : suc i + k ≡ i + suc k = omega arith in rw e (h (suc k) (omega arith))) j (omega arith))

  -- row j of the rows joined is f j
  pub part_concat_rows : (n : ℕ) → ((k : ℕ) → k < n → length (f k) ≡ w) → (j : ℕ) → j < n → part w (concat_rows n f) j ≡ f j
  part_concat_rows n h j l = part_from n 0 (λ k m. rw (zero-add k) (h k m)) j l ∙ ap f (zero-add j)

  -- entry b of row j of the rows joined
  pub concat_rows_at : (n : ℕ) → ((k : ℕ) → k < n → length (f k) ≡ w) → (j b : ℕ) → j < n → b < w → get_or (concat_rows n f) (j * w + b) 0 ≡ get_or (f j) b 0
  concat_rows_at n h j b l m = sym (part_at w (concat_rows n f) j b m) ∙ ap (λ r. get_or r b 0) (part_concat_rows n h j l)

  rows-from : (n i : ℕ) (s : List ℕ) → length s ≡ n * w → ((k : ℕ) → k < n → part w s k ≡ f (i + k)) → s ≡ concat_rows_from i n f
  unfolding concat_rows_from
  rows-from zero i s l h = none_in s (l ∙ zero-mul w)
  rows-from (suc n) i s l h =
      let long : length s ≡ w + n * w = l ∙ suc-mul n w ∙ omega arith in
      let first : take w s ≡ f i = rw (zero-mul w, add-zero i) at (h 0 (omega arith)) in
      let rest : drop w s ≡ concat_rows_from (suc i) n f =
      rows-from n (suc i) (drop w s)
      (rw length-drop (omega arith))
      (λ k m.
      let later : w + k * w ≡ suc k * w = omega (arith, suc-mul k w) in
      let next : i + suc k ≡ suc i + k = omega arith in
      ap (take w) (drop-drop (k * w) w s ∙ ap (λ a. drop a s) later) ∙ h (suc k) (omega arith) ∙ ap f next) in
      sym (take-append-drop w s) ∙ rw (first, rest) refl

  -- a list whose rows are these is these rows, joined
  pub is_concat_rows : (n : ℕ) (s : List ℕ) → length s ≡ n * w → ((k : ℕ) → k < n → part w s k ≡ f k) → s ≡ concat_rows n f
  is_concat_rows n s l h = rows-from n 0 s l (λ k m. h k m ∙ ap f (sym (zero-add k)))

-- ---- a list in which entry b of row j is written

module _ (w : ℕ) (s : List ℕ) (j b v : ℕ) (inside : b < w) where
  pub part_set_own : part w (set s (j * w + b) v) j ≡ set (part w s j) b v
  part_set_own = ap (take w) (drop-set-add (j * w) s b v) ∙ take-set-lt w (drop (j * w) s) b v inside

  pub part_set_other : (i : ℕ) → ¬ (i ≡ j) → part w (set s (j * w + b) v) i ≡ part w s i
  part_set_other i n = by_cases (dec_lt i j) before after
    where
      before : i < j → part w (set s (j * w + b) v) i ≡ part w s i
      before l =
          let past : i * w + w ≤ j * w = omega (arith, suc-mul i w, mul-le-mul_right w l) in
          let at : j * w + b ≡ i * w + (j * w + b - i * w) = omega arith in
          ap (λ k. take w (drop (i * w) (set s k v))) at
          ∙ ap (take w) (drop-set-add (i * w) s (j * w + b - i * w) v)
          ∙ take-set-le w (drop (i * w) s) (j * w + b - i * w) v (omega arith)

      after : (i < j → ⊥) → part w (set s (j * w + b) v) i ≡ part w s i
      after g =
          let later : suc j ≤ i = omega arith in
          let past : j * w + w ≤ i * w = omega (arith, suc-mul j w, mul-le-mul_right w later) in
          ap (take w) (drop-set-lt (i * w) s (j * w + b) v (omega arith))

-- ---- a loop that lends each row of s to be written: after i rows the list is the i new rows and the rest of s

pub record Written (w : ℕ) (f : ℕ → List ℕ) (s : List ℕ) (i : ℕ) (now : List ℕ) : Type 0 where
  pub long : length (concat_rows i f) ≡ i * w
  pub is : now ≡ concat_rows i f ++ drop (i * w) s

pub written_none : {w : ℕ} {f : ℕ → List ℕ} {s : List ℕ} → Written w f s 0 s
unfolding concat_rows_from
written_none {w} = record { long = rw zero-mul; is = rw zero-mul }

module _ {w : ℕ} {f : ℕ → List ℕ} {s : List ℕ} {i : ℕ} {now : List ℕ} (h : Written w f s i now) where
  -- the row that is lent is the row as it came
  pub written_lent : part w now i ≡ part w s i
  written_lent = rw (h.is, drop_at (concat_rows i f) (drop (i * w) s) (i * w) h.long)

  -- the row that comes back makes the list one row longer
  pub written_more : {r : List ℕ} → r ≡ f i → length r ≡ w → Written w f s (i + 1) (put_mid (i * w) w now r)
  written_more {r} e l =
      let more : concat_rows (i + 1) f ≡ concat_rows i f ++ f i = concat_rows_more i 0 f ∙ ap (λ k. concat_rows i f ++ f k) (zero-add i) in
      let next : (i + 1) * w ≡ i * w + w = rw add-one (suc-mul i w) in
      record {
        long = rw (more, length-append, h.long, ← e, l, next);
        is =
            rw (h.is, take_at (concat_rows i f) (drop (i * w) s) (i * w) h.long, drop_at (concat_rows i f) (drop (i * w) s) (i * w) h.long, drop-drop, more, append_assoc, e, next);
      }

  -- and a row that is to stay as it came need not be lent
  pub written_skip : f i ≡ part w s i → i * w + w ≤ length s → Written w f s (i + 1) now
  written_skip e l =
      rw (put_same (i * w) w now) at
      (written_more {r = part w now i} (written_lent ∙ sym e) (ap length written_lent ∙ length_part w s i l))

  -- once every row is written
  pub written_all : (n : ℕ) → i ≡ n → length s ≡ n * w → now ≡ concat_rows n f
  written_all n e l =
      let over : drop (n * w) s ≡ [] = rw (← l) (drop-length s) in
      rw (h.is, e, over, append-nil)

-- ---- a list in which row n is replaced

module _ (w k : ℕ) (s : List ℕ) (long : length s ≡ k * w) (n : ℕ) (inside : n < k) (new : List ℕ) (whole : length new ≡ w) where
  abbrev rule : ℕ → List ℕ
  rule i = cond (eqb i n) new (part w s i)

  fits : (i : ℕ) → i < k → i * w + w ≤ length s
  fits i l = omega (arith, suc-mul i w, mul-le-mul_right w l)

  stays : (i : ℕ) → ¬ (i ≡ n) → rule i ≡ part w s i
  stays i h = rw (ne_eqb i n h)

  up_to : (i : ℕ) → i ≤ n → Written w rule s i s
  up_to zero h = written_none
  up_to (suc i) h = rw (add-one i) at (written_skip (up_to i (omega arith)) (stays i (λ e. omega arith)) (fits i (omega arith)))

  from : (d : ℕ) → n + 1 + d ≤ k → Written w rule s (n + 1 + d) (put_mid (n * w) w s new)
  from zero h = rw (add-zero (n + 1)) (written_more (up_to n (omega arith)) {r = new} (rw (eq-eqb n n refl)) whole)
  from (suc d) h =
      let next : n + 1 + suc d ≡ n + 1 + d + 1 = omega arith in
      rw next (written_skip (from d (omega arith)) (stays (n + 1 + d) (λ e. omega arith)) (fits (n + 1 + d) (omega arith)))

  pub rows_put : put_mid (n * w) w s new ≡ concat_rows k (λ i. cond (eqb i n) new (part w s i))
  rows_put = written_all (from (k - (n + 1)) (omega arith)) k (omega arith) long
