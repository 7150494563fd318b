-- Laws of streams: how many tables one has, what its next table is, and what is read of one stream after another.
-- Assumes nothing.
use mathlib.Core.Path.{◌≡◌, refl, ap, sym, ◌∙◌}
use mathlib.Core.Logic.{◌⊎◌, inl, inr, by_cases}
use mathlib.Core.List.{List, [], ◌∷◌, ◌++◌}
use Prim.Native.Nat.{ℕ, zero, suc, ◌+◌, ◌-◌, ◌≤◌, ◌<◌, zero-le}
use native.Mathlib.Decide.{dec_lt}
use native.Mathlib.Nat.{le_refl, sub-zero}
use native.Mathlib.Omega.{arith}
use lib.ListN.{length, take, drop, length-append, length-drop, take-append-drop, get_or-append}
use lib.Seq.{length-take-le, take-append-le, drop-append-le}
use borrow.Author.Tests.{ne_eqb, lt-ltb, le-ltb}
use Rattle.columns.specs.Column.{Bytes}
use Rattle.columns.proofs.Members.{none_in}
use Rattle.words.specs.Words.{word}
use Rattle.streams.specs.declared.Ending.{Ending}
use Rattle.streams.specs.declared.Ending.TheVariants.{Whole, Cut, Count}
use Rattle.std.proofs.Common.{Option, Some, None}
use Rattle.streams.specs.Stream.{table_bytes, bytes_to_read, first_table, later_tables, open_front, full_ending, front_of, Stream, ends_as, led, go_on, read_within}

-- ---- what stands at the front of s

-- a table that is there whole
pub record IsTable (s : Bytes) : Type 0 where
  pub counted : 4 ≤ length s
  pub few : word s ≤ 1024
  pub there : 4 + table_bytes s ≤ length s

-- a row count above 1,024 stands at the front
pub record IsMany (s : Bytes) : Type 0 where
  pub counted : 4 ≤ length s
  pub many : 1024 < word s

-- the end of a reading that is not whole
pub record IsBroken (s : Bytes) : Type 0 where
  pub ending : Ending
  pub is : open_front s ≡ Some ending
  pub broken : ¬ (ending ≡ Whole)
  pub many : ending ≡ Count → IsMany s

pub table_front : {s : Bytes} → IsTable s → open_front s ≡ None
table_front {s} t =
    rw (ne_eqb (length s) 0 (λ e. omega (arith, t.counted)), le-ltb (length s) 4 t.counted, le-ltb 1024 (word s) t.few, le-ltb (length s) (4 + table_bytes s) t.there)

cut_is_broken : ¬ (◌≡◌ {A = Ending} Cut Whole)
cut_is_broken e = let z : ◌≡◌ {A = ℕ} 0 1 = cc in omega arith

cut_is_no_count : ¬ (◌≡◌ {A = Ending} Cut Count)
cut_is_no_count e = let z : ◌≡◌ {A = ℕ} 0 1 = cc in omega arith

count_is_broken : ¬ (◌≡◌ {A = Ending} Count Whole)
count_is_broken e = let z : ◌≡◌ {A = ℕ} 0 1 = cc in omega arith

-- nothing, a table, or what ends the reading
front_view : (s : Bytes) → (length s ≡ 0) ⊎ (IsTable s ⊎ IsBroken s)
front_view s =
    by_cases (dec_lt 0 (length s))
    (λ some.
    let nonempty = ne_eqb (length s) 0 (λ e. omega arith) in
    by_cases (dec_lt (length s) 4)
    (λ short. inr (inr (record { ending = Cut; is = rw (nonempty, lt-ltb (length s) 4 short); broken = cut_is_broken; many = λ e. absurd (cut_is_no_count e) })))
    (λ long.
    let counted = le-ltb (length s) 4 (omega arith) in
    by_cases (dec_lt 1024 (word s))
    (λ many. inr (inr (record { ending = Count; is = rw (nonempty, counted, lt-ltb 1024 (word s) many); broken = count_is_broken; many = λ e. record { counted = omega arith; many = many } })))
    (λ few.
    let fine = le-ltb 1024 (word s) (omega arith) in
    by_cases (dec_lt (length s) (4 + table_bytes s))
    (λ part. inr (inr (record { ending = Cut; is = rw (nonempty, counted, fine, lt-ltb (length s) (4 + table_bytes s) part); broken = cut_is_broken; many = λ e. absurd (cut_is_no_count e) })))
    (λ whole. inr (inl (record { counted = omega arith; few = omega arith; there = omega arith }))))))
    (λ none. inl (omega arith))

-- ---- where so many tables more may be read

front_open : (left : ℕ) (s : Bytes) → front_of (suc left) s ≡ open_front s
front_open left s = rw (ne_eqb (suc left) 0 (λ e. omega arith))

pub front_table : (left : ℕ) (s : Bytes) → front_of left s ≡ None → (0 < left) × IsTable s
front_table zero s h = let z : ◌≡◌ {A = ℕ} 0 1 = cc in absurd (omega arith)
front_table (suc left) s h = (omega arith, go (front_view s))
  where
    opened : open_front s ≡ None
    opened = sym (front_open left s) ∙ h

    go : (length s ≡ 0) ⊎ (IsTable s ⊎ IsBroken s) → IsTable s
    go (inl e) = let z : ◌≡◌ {A = ℕ} 0 1 = cc (rw (none_in s e) at opened) in absurd (omega arith)
    go (inr (inl t)) = t
    go (inr (inr k)) = let z : ◌≡◌ {A = ℕ} 0 1 = cc (rw k.is at opened) in absurd (omega arith)

pub front_ends : (left : ℕ) (s : Bytes) (e : Ending) → front_of left s ≡ Some e → read_within left s ≡ ends_as e
unfolding read_within
front_ends zero s e h = let same : full_ending s ≡ e = cc in ap ends_as same
front_ends (suc left) s e h = rw (sym (front_open left s) ∙ h)

-- ---- what is read of it

-- no more tables are read than may be
pub few_tables : (n : ℕ) (s : Bytes) → length (read_within n s).tables ≤ n
unfolding read_within
few_tables zero s = zero-le
few_tables (suc n) s = go (open_front s) (few_tables n (later_tables s))
  where
    go : (f : Option Ending) → length (read_within n (later_tables s)).tables ≤ n
        → length (go_on f (first_table s) (read_within n (later_tables s))).tables ≤ suc n
    go None h = omega arith
    go (Some e) h = zero-le

-- a table, and what is read of the later ones
pub read_table : (n : ℕ) {s : Bytes} → IsTable s → read_within (suc n) s ≡ led (first_table s) (read_within n (later_tables s))
unfolding read_within
read_table n t = rw (table_front t)

-- of no bytes there is nothing to read, and they end whole
pub read_nothing : (n : ℕ) → read_within n [] ≡ ends_as Whole
unfolding read_within
read_nothing zero = refl
read_nothing (suc n) = refl

-- ---- one stream after another

-- tables, and then a stream
abbrev pub joined : List Bytes → Stream → Stream
joined ts s = record { tables = ts ++ s.tables; ending = s.ending }

module _ (a b : Bytes) where
  word_append : 4 ≤ length a → word (a ++ b) ≡ word a
  word_append h =
      rw (get_or-append a b 0 0 (omega arith), get_or-append a b 0 1 (omega arith), get_or-append a b 0 2 (omega arith), get_or-append a b 0 3 (omega arith))

  table_append : IsTable a → IsTable (a ++ b)
  table_append t =
      record {
        counted = rw length-append (omega (arith, t.counted));
        few = rw (word_append t.counted) t.few;
        there = rw (word_append t.counted, length-append) (omega (arith, t.there));
      }

  first_append : IsTable a → first_table (a ++ b) ≡ first_table a
  first_append t =
      rw (word_append t.counted, drop-append-le 4 a b t.counted, take-append-le (table_bytes a) (drop 4 a) b (rw length-drop (omega (arith, t.there))))

  later_append : IsTable a → later_tables (a ++ b) ≡ later_tables a ++ b
  later_append t = rw (word_append t.counted, drop-append-le (4 + table_bytes a) a b t.there)

full_whole : (s : Bytes) → full_ending s ≡ Whole → s ≡ []
full_whole s h =
    by_cases (dec_lt 0 (length s))
    (λ some. absurd (count_is_broken (rw (ne_eqb (length s) 0 (λ e. omega arith)) at h)))
    (λ none. none_in s (omega arith))

-- after a stream that ends whole, the reading goes on with the other, where so many tables fewer may be read
pub read_append : (n : ℕ) (a b : Bytes) → (read_within n a).ending ≡ Whole
    → read_within n (a ++ b) ≡ joined (read_within n a).tables (read_within (n - length (read_within n a).tables) b)
unfolding read_within
read_append zero a b h = rw (full_whole a h)
read_append (suc n) a b h = go (front_view a) (read_append n (later_tables a) b)
  where
    go : (length a ≡ 0) ⊎ (IsTable a ⊎ IsBroken a)
        → ((read_within n (later_tables a)).ending ≡ Whole
        → read_within n (later_tables a ++ b) ≡ joined (read_within n (later_tables a)).tables (read_within (n - length (read_within n (later_tables a)).tables) b))
        → read_within (suc n) (a ++ b) ≡ joined (read_within (suc n) a).tables (read_within (suc n - length (read_within (suc n) a).tables) b)
    go (inl e) r = rw (none_in a e, sub-zero)
    go (inr (inl t)) r =
        let later = read_within n (later_tables a) in
        let whole : later.ending ≡ Whole = rw (table_front t) at h in
        let less : suc n - suc (length later.tables) ≡ n - length later.tables = omega arith in
        rw (table_front (table_append a b t), first_append a b t, later_append a b t, table_front t, less, r whole)
    go (inr (inr k)) r = absurd (k.broken (rw k.is at h))

-- the row count, and what is to be read after it, hang on the first four bytes alone
pub same_count : (s rest : Bytes) → 4 ≤ length s → bytes_to_read (take 4 s ++ rest) ≡ bytes_to_read s
same_count s rest h =
    let long : 4 ≤ length (take 4 s) = rw (length-take-le 4 s h) (le_refl 4) in
    let same : word (take 4 s ++ rest) ≡ word s = word_append (take 4 s) rest long ∙ sym (word_append (take 4 s) (drop 4 s) long) ∙ ap word (take-append-drop 4 s) in
    rw same

-- ---- where fewer tables may be read

-- a reading that ends before so many tables, or whole after them, does not notice
abbrev pub Enough : ℕ → Stream → Type 0
Enough m s = (length s.tables < m) ⊎ ((length s.tables ≤ m) × (s.ending ≡ Whole))

-- of the table t and then one of two streams
module _ (t : Bytes) (m : ℕ) (x y : Stream) where
  enough_later : Enough (suc m) (led t y) → Enough m y
  enough_later (inl l) = inl (omega arith)
  enough_later (inr (l, whole)) = inr (omega arith, whole)

  same_going_on : (f : Option Ending) → Enough (suc m) (go_on f t y) → (Enough m y → x ≡ y) → go_on f t x ≡ go_on f t y
  same_going_on None h r = ap (led t) (r (enough_later h))
  same_going_on (Some e) h r = refl

  same_tables : (f : Option Ending) → length (go_on f t y).tables ≤ suc m → (length y.tables ≤ m → x.tables ≡ y.tables)
      → (go_on f t x).tables ≡ (go_on f t y).tables
  same_tables None h r = ap (λ ts. t ∷ ts) (r (omega arith))
  same_tables (Some e) h r = refl

pub read_enough : (m n : ℕ) (s : Bytes) → m ≤ n → Enough m (read_within n s) → read_within m s ≡ read_within n s
unfolding read_within
read_enough zero zero s l h = refl
read_enough zero (suc n) s l (inl h) = absurd (omega arith)
read_enough zero (suc n) s l (inr (h, whole)) = go (front_view s)
  where
    go : (length s ≡ 0) ⊎ (IsTable s ⊎ IsBroken s) → read_within 0 s ≡ read_within (suc n) s
    go (inl e) = rw (none_in s e)
    go (inr (inl t)) = absurd (omega (arith, rw (table_front t) at h))
    go (inr (inr k)) = absurd (k.broken (rw k.is at whole))
read_enough (suc m) zero s l h = absurd (omega arith)
read_enough (suc m) (suc n) s l h = same_going_on (first_table s) m _ _ (open_front s) h (read_enough m n (later_tables s) (omega arith))

-- and where the tables end with these the reading has the same tables, however it ends
none_left : (ts : List Bytes) → length ts ≤ 0 → [] ≡ ts
none_left [] h = refl
none_left (t ∷ ts) h = absurd (omega arith)

pub read_tables : (m n : ℕ) (s : Bytes) → m ≤ n → length (read_within n s).tables ≤ m → (read_within m s).tables ≡ (read_within n s).tables
unfolding read_within
read_tables zero n s l h = none_left (read_within n s).tables h
read_tables (suc m) zero s l h = absurd (omega arith)
read_tables (suc m) (suc n) s l h = same_tables (first_table s) m _ _ (open_front s) h (read_tables m n (later_tables s) (omega arith))

-- where it would have ended otherwise than whole it ends as count: a byte follows the last table that may be read
pub read_full : (m n : ℕ) (s : Bytes) → m ≤ n → length (read_within n s).tables ≡ m → ¬ ((read_within n s).ending ≡ Whole) → (read_within m s).ending ≡ Count
unfolding read_within
read_full zero n s l e broken =
    by_cases (dec_lt 0 (length s)) (λ some. rw (ne_eqb (length s) 0 (λ q. omega arith)))
    (λ none. absurd (broken (rw (none_in s (omega arith), read_nothing n))))
read_full (suc m) zero s l e broken = absurd (omega arith)
read_full (suc m) (suc n) s l e broken = go (front_view s) (read_full m n (later_tables s) (omega arith))
  where
    go : (length s ≡ 0) ⊎ (IsTable s ⊎ IsBroken s)
        → (length (read_within n (later_tables s)).tables ≡ m → ¬ ((read_within n (later_tables s)).ending ≡ Whole) → (read_within m (later_tables s)).ending ≡ Count)
        → (read_within (suc m) s).ending ≡ Count
    go (inl q) r = absurd (omega (arith, rw (none_in s q) at e))
    go (inr (inl t)) r =
        let same : length (read_within n (later_tables s)).tables ≡ m = omega (arith, rw (table_front t) at e) in
        rw (table_front t) (r same (λ w. broken (rw (table_front t) w)))
    go (inr (inr k)) r = absurd (omega (arith, rw k.is at e))

-- ---- a reading that has stopped

many_front : {s : Bytes} → IsMany s → open_front s ≡ Some Count
many_front {s} m = rw (ne_eqb (length s) 0 (λ e. omega (arith, m.counted)), le-ltb (length s) 4 m.counted, lt-ltb 1024 (word s) m.many)

many_append : (a b : Bytes) → IsMany a → IsMany (a ++ b)
many_append a b m =
    record { counted = rw length-append (omega (arith, m.counted)); many = rw (word_append a b m.counted) m.many }

-- whatever follows bytes at which the reading ends as count, nothing of it is read
pub read_stops : (n : ℕ) (a b : Bytes) → (read_within n a).ending ≡ Count → read_within n (a ++ b) ≡ read_within n a
unfolding read_within
read_stops zero a b h =
    by_cases (dec_lt 0 (length a))
    (λ some. rw (ne_eqb (length a) 0 (λ e. omega arith), ne_eqb (length (a ++ b)) 0 (λ e. omega (arith, length-append a b))))
    (λ none. absurd (count_is_broken (sym (rw (none_in a (omega arith)) at h))))
read_stops (suc n) a b h = go (front_view a) (read_stops n (later_tables a) b)
  where
    go : (length a ≡ 0) ⊎ (IsTable a ⊎ IsBroken a) → ((read_within n (later_tables a)).ending ≡ Count → read_within n (later_tables a ++ b) ≡ read_within n (later_tables a))
        → read_within (suc n) (a ++ b) ≡ read_within (suc n) a
    go (inl e) r = absurd (count_is_broken (sym (rw (none_in a e) at h)))
    go (inr (inl t)) r =
        let stopped : (read_within n (later_tables a)).ending ≡ Count = rw (table_front t) at h in
        rw (table_front (table_append a b t), first_append a b t, later_append a b t, table_front t, r stopped)
    go (inr (inr k)) r =
        let ends : k.ending ≡ Count = rw k.is at h in
        let m = k.many ends in
        rw (many_front (many_append a b m), many_front m)

-- ---- the table at the front, by itself

module _ {s : Bytes} (t : IsTable s) where
  abbrev piece : Bytes
  piece = take (4 + table_bytes s) s

  pieces : piece ++ drop (4 + table_bytes s) s ≡ s
  pieces = take-append-drop (4 + table_bytes s) s

  piece_length : length piece ≡ 4 + table_bytes s
  piece_length = length-take-le (4 + table_bytes s) s t.there

  piece_word : word piece ≡ word s
  piece_word = sym (word_append piece (drop (4 + table_bytes s) s) (rw piece_length (omega arith))) ∙ ap word pieces

  piece_table : IsTable piece
  piece_table =
      record {
        counted = rw piece_length (omega arith);
        few = rw piece_word t.few;
        there = rw (piece_word, piece_length) (le_refl _);
      }

  -- it is read whole, and nothing is left
  pub read_piece : (n : ℕ) → read_within (suc n) piece ≡ record { tables = first_table s ∷ []; ending = Whole }
  read_piece n =
      let first : first_table piece ≡ first_table s = sym (first_append piece (drop (4 + table_bytes s) s) piece_table) ∙ ap first_table pieces in
      let later : later_tables piece ≡ [] = none_in (later_tables piece) (rw (piece_word, length-drop, piece_length) (omega arith)) in
      rw (read_table n piece_table, first, later, read_nothing n)
