-- Laws of a table and the list of its rows: rows of 32 bytes that are joined are the rows of a table, and a table is accepted by its rows.
-- Assumes nothing.
use mathlib.Core.Path.{◌≡◌, refl, ap, ap₂, sym, ◌∙◌}
use mathlib.Core.Logic.{⊎_elim}
use mathlib.Core.Bool.{true, false}
use mathlib.Core.List.Memᴰ
use mathlib.Core.List.{List, [], ◌∷◌, ◌++◌, append_assoc, Memᴰ}
use Prim.Native.Nat.{ℕ, zero, suc, ◌+◌, ◌*◌, ◌≤◌, ◌<◌}
use native.Mathlib.Nat.{add-zero, zero-add, not-suc-le-zero}
use native.Mathlib.Omega.{arith}
use lib.ListN.{length, take, length-append}
use lib.Seq.{take_at, drop_at}
use Rattle.columns.specs.Column.{Bytes, part}
use Rattle.columns.specs.First.{indices_from}
use Rattle.columns.specs.Signal.{max_signal}
use Rattle.columns.proofs.Parts.{length_part}
use Rattle.blocks.specs.Kind.{Comparator}
use Rattle.places.specs.Places.{before}
use Rattle.world.specs.Rows.{rows, pos_of, kind_of, level_or}
use Rattle.layout.specs.Good.{good_row}
use Rattle.layout.proofs.Fields.{part_byte, part_place, level_again, good_again}
use Rattle.refusals.specs.Accepted.{Table}
use Rattle.refusals.proofs.Accepted.{OfKinds, different}
use Rattle.subtables.specs.Subtable.{table_of}
use Rattle.subtables.proofs.Rows.{table_all}
use Rattle.unions.specs.Union.{rows_from, rows_of, HasRow, joined, place_of}
use Rattle.unions.proofs.Rising.{Rising}

-- ---- the rows of a table by index

module _ (t : Bytes) where
  row_member : (k n i : ℕ) → k < n → Memᴰ (part 32 t (i + k)) (rows_from t n i)
  unfolding rows_from
  row_member k zero i l = absurd (not-suc-le-zero l)
  row_member zero (suc n) i l = Memᴰ.head (ap (part 32 t) (add-zero i))
  row_member (suc k) (suc n) i l =
      let e : i + 1 + k ≡ i + suc k = omega arith in
      Memᴰ.tail (rw e at (row_member k n (i + 1) (omega arith)))

  pub has_member : (r : Bytes) → HasRow t r → Memᴰ r (rows_of t)
  has_member r h = rw (zero-add h.row, h.is) at (row_member h.row (rows t) 0 h.inside)

  member_row : (r : Bytes) (n i : ℕ) → i + n ≤ rows t → Memᴰ r (rows_from t n i) → HasRow t r
  unfolding rows_from
  member_row r zero i l m = absurd (Memᴰ.not-nil m)
  member_row r (suc n) i l m =
      ⊎_elim (λ e. record { row = i; inside = omega arith; is = sym e }) (λ u. member_row r n (i + 1) (omega arith) u) (Memᴰ.cases_cons m)

  pub member_has : (r : Bytes) → Memᴰ r (rows_of t) → HasRow t r
  member_has r m = member_row r (rows t) 0 (omega arith) m

length_from : (t : Bytes) (n i : ℕ) → length (rows_from t n i) ≡ n
unfolding rows_from
length_from t zero i = refl
length_from t (suc n) i = ap suc (length_from t n (i + 1))

pub length_rows : (t : Bytes) → length (rows_of t) ≡ rows t
length_rows t = length_from t (rows t) 0

-- rows of an accepted table at one position are the same
pub same_at : (t : Bytes) → Table t → (r s : Bytes) → HasRow t r → HasRow t s → place_of r ≡ place_of s → r ≡ s
same_at t a r s g h e =
    let at : pos_of t g.row ≡ pos_of t h.row = sym (part_place t g.row) ∙ ap place_of g.is ∙ e ∙ ap place_of (sym h.is) ∙ part_place t h.row in
    sym g.is ∙ ap (part 32 t) (different t a g.row h.row g.inside h.inside at) ∙ h.is

-- ---- rows that are joined

-- every one of the rows has 32 bytes
abbrev pub Of32 : List Bytes → Type 0
Of32 rs = (r : Bytes) → Memᴰ r rs → length r ≡ 32

joined_from : (t : Bytes) (n i : ℕ) → joined (rows_from t n i) ≡ table_of t (indices_from (λ k. true) n i)
unfolding rows_from joined table_of indices_from
joined_from t zero i = refl
joined_from t (suc n) i = ap (λ rest. part 32 t i ++ rest) (joined_from t n (i + 1))

module _ (t : Bytes) (whole : length t ≡ rows t * 32) where
  pub rows_of_32 : Of32 (rows_of t)
  rows_of_32 r m = let h = member_has t r m in rw (← h.is) (length_part 32 t h.row (omega (arith, h.inside)))

  -- a table is its rows, joined
  pub joined_rows_of : joined (rows_of t) ≡ t
  joined_rows_of = joined_from t (rows t) 0 ∙ table_all t whole

pub length_joined : (rs : List Bytes) → Of32 rs → length (joined rs) ≡ length rs * 32
unfolding joined
length_joined [] of_32 = refl
length_joined (r ∷ rest) of_32 =
    let first = of_32 r (Memᴰ.head refl) in
    let later = length_joined rest (λ s m. of_32 s (Memᴰ.tail m)) in
    rw (length-append r (joined rest)) (omega (arith, first, later))

-- behind others
joined_rows : (front : Bytes) (i : ℕ) (rs : List Bytes) → length front ≡ i * 32 → Of32 rs → rows_from (front ++ joined rs) (length rs) i ≡ rs
unfolding rows_from joined
joined_rows front i [] long of_32 = refl
joined_rows front i (r ∷ rest) long of_32 =
    let first = of_32 r (Memᴰ.head refl) in
    let own : part 32 (front ++ (r ++ joined rest)) i ≡ r = ap (take 32) (drop_at front (r ++ joined rest) (i * 32) long) ∙ take_at r (joined rest) 32 first in
    let further : length (front ++ r) ≡ (i + 1) * 32 = length-append front r ∙ omega (arith, long, first) in
    let later = joined_rows (front ++ r) (i + 1) rest further (λ s m. of_32 s (Memᴰ.tail m)) in
    ap₂ ◌∷◌ own (rw (append_assoc front r (joined rest)) at later)

module _ (rs : List Bytes) (of_32 : Of32 rs) where
  pub rows_joined : rows (joined rs) ≡ length rs
  rows_joined = let long = length_joined rs of_32 in omega (arith, long)

  pub whole_joined : length (joined rs) ≡ rows (joined rs) * 32
  whole_joined = length_joined rs of_32 ∙ ap (λ n. n * 32) (sym rows_joined)

  -- the rows of the table are these rows
  pub rows_of_joined : rows_of (joined rs) ≡ rs
  rows_of_joined = rw rows_joined (joined_rows [] 0 rs refl of_32)

-- ---- an accepted table, by its rows

-- a row by itself is good, of one of the kinds, and not overdriven
pub record GoodBlock (kinds : ℕ) (r : Bytes) : Type 0 where
  pub good : good_row r 0 ≡ true
  pub kind : kind_of r 0 < kinds
  pub low : kind_of r 0 ≡ Comparator → level_or r 0 0 ≤ max_signal

module _ (t : Bytes) where
  part_kind : (i : ℕ) → kind_of (part 32 t i) 0 ≡ kind_of t i
  part_kind i = part_byte t i 12 (omega arith)

  part_level : (i : ℕ) → level_or (part 32 t i) 0 0 ≡ level_or t i 0
  part_level i = level_again (λ _. false) t (part 32 t i) i 0 (λ b l _. part_byte t i b l) refl 0

  pub table_rows : (kinds : ℕ) → Table t → OfKinds kinds t → (r : Bytes) → HasRow t r → GoodBlock kinds r
  table_rows kinds a k r h =
      rw (← h.is)
      (record {
        good = good_again (λ _. false) t (part 32 t h.row) h.row 0 (λ b l _. part_byte t h.row b l) refl (a.good h.row h.inside);
        kind = rw (part_kind h.row) (k h.row h.inside);
        low = λ c. rw (part_level h.row) (a.low h.row h.inside (rw (part_kind h.row) at c));
      })

  rising_next : (n i k : ℕ) → Rising (rows_from t n i) → k + 1 < n → before (pos_of t (i + k)) (pos_of t (i + k + 1)) ≡ true
  unfolding rows_from
  rising_next zero i k h l = absurd (not-suc-le-zero l)
  rising_next (suc zero) i k h l = absurd (omega arith)
  rising_next (suc (suc n)) i zero h l = rw (add-zero i) (rw (part_place t i, part_place t (i + 1)) at h.0.0)
  rising_next (suc (suc n)) i (suc k) h l =
      let e : i + 1 + k ≡ i + suc k = omega arith in
      rw e at (rising_next (suc n) (i + 1) k h.1 (omega arith))

  pub rows_table : (kinds : ℕ) → length t ≡ rows t * 32 → rows t ≤ 1024 → Rising (rows_of t) → ((r : Bytes) → HasRow t r → GoodBlock kinds r) → Table t × OfKinds kinds t
  rows_table kinds whole few up each = (
    record {
      whole = whole;
      few = few;
      good = λ i l. good_again (λ _. false) (part 32 t i) t 0 i (λ b m _. sym (part_byte t i b m)) refl (own i l).good;
      ordered = λ i l. rw zero-add at (rising_next (rows t) 0 i up l);
      low = λ i l c. rw (part_level i) at ((own i l).low (rw (part_kind i) c));
    },
    λ i l. rw (part_kind i) at (own i l).kind,
  )
    where
      own : (i : ℕ) → i < rows t → GoodBlock kinds (part 32 t i)
      own i l = each (part 32 t i) (record { row = i; inside = l; is = refl })
