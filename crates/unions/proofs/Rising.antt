-- Laws of rows in order: what is put among them, what two such lists have in one, and whether these clash.
-- Assumes nothing.
use mathlib.Core.Path.{◌≡◌, refl, ap, sym, ◌∙◌}
use mathlib.Core.Logic.{⊎_elim}
use mathlib.Core.Bool.{Bool, true, false, cond, not, ◌||◌, true≢false}
use mathlib.Core.List.{List, [], ◌∷◌}
use Rattle.columns.specs.Column.{Bytes, same}
use Rattle.columns.proofs.Members.{All}
use Rattle.columns.proofs.Truth.{or_none}
use Rattle.places.specs.declared.Pos.{Pos}
use Rattle.places.specs.Places.{same_pos, before}
use Rattle.places.proofs.Order.{same_pos_refl, before_trans, before_asym, before_differs, after_differs, at_or_past}
use Rattle.unions.specs.Union.{place_of, insert_row, union_rows, clashes, any_of, has_clash}

-- ---- rows in order

-- every one of the rows stands past q
abbrev pub Past : Pos → List Bytes → Type 0
Past q rs = All (λ r. before q (place_of r) ≡ true) rs

-- each row stands before all later ones
abbrev pub Rising : List Bytes → Type 0
Rising [] = Unit {0}
Rising (r ∷ rest) = Past (place_of r) rest × Rising rest

pub past_earlier : (p q : Pos) (rs : List Bytes) → before p q ≡ true → Past q rs → Past p rs
past_earlier p q [] h g = tt
past_earlier p q (r ∷ rest) h g = (before_trans p q (place_of r) h g.0, past_earlier p q rest h g.1)

-- ---- a row put among others

module _ (r : Bytes) where
  -- before all of them
  insert_front : (rs : List Bytes) → Past (place_of r) rs → insert_row r rs ≡ r ∷ rs
  unfolding insert_row
  insert_front [] h = refl
  insert_front (s ∷ rest) h = rw (before_differs (place_of r) (place_of s) h.0, h.0) refl

  module _ (s : Bytes) (rest : List Bytes) where
    -- past the first of them
    insert_behind : before (place_of s) (place_of r) ≡ true → insert_row r (s ∷ rest) ≡ s ∷ insert_row r rest
    unfolding insert_row
    insert_behind h = rw (after_differs (place_of r) (place_of s) h, before_asym (place_of s) (place_of r) h) refl

    -- at the first of them
    insert_same : place_of r ≡ place_of s → insert_row r (s ∷ rest) ≡ s ∷ rest
    unfolding insert_row
    insert_same e = rw (e, same_pos_refl (place_of s)) refl

  past_insert : (q : Pos) (rs : List Bytes) → before q (place_of r) ≡ true → Past q rs → Past q (insert_row r rs)
  unfolding insert_row
  past_insert q [] h g = (h, tt)
  past_insert q (s ∷ rest) h g = go (same_pos (place_of r) (place_of s)) (before (place_of r) (place_of s)) (past_insert q rest h g.1)
    where
      go : (same first : Bool) → Past q (insert_row r rest) → Past q (cond same (s ∷ rest) (cond first (r ∷ s ∷ rest) (s ∷ insert_row r rest)))
      go true first later = g
      go false true later = (h, g)
      go false false later = (g.0, later)

-- ---- two lists of rows

past_union : (q : Pos) (rs ss : List Bytes) → Past q rs → Past q ss → Past q (union_rows rs ss)
unfolding union_rows
past_union q rs [] g h = g
past_union q rs (s ∷ ss) g h = past_insert s q (union_rows rs ss) h.0 (past_union q rs ss g h.1)

module _ (r : Bytes) (rs : List Bytes) where
  -- the first row of the first, where it stands before all of the second,
  pub union_first : (ss : List Bytes) → Past (place_of r) ss → union_rows (r ∷ rs) ss ≡ r ∷ union_rows rs ss
  unfolding union_rows
  union_first [] h = refl
  union_first (s ∷ ss) h = ap (insert_row s) (union_first ss h.1) ∙ insert_behind s r (union_rows rs ss) h.0

  -- and where it stands at the first row of the second
  pub union_shared : (s : Bytes) (ss : List Bytes) → place_of r ≡ place_of s → Past (place_of s) ss → union_rows (r ∷ rs) (s ∷ ss) ≡ r ∷ union_rows rs ss
  unfolding union_rows
  union_shared s ss e h = ap (insert_row s) (union_first ss (rw e h)) ∙ insert_same s r (union_rows rs ss) (sym e)

-- the first row of the second, where it stands before all of the first
pub union_second : (rs : List Bytes) (s : Bytes) (ss : List Bytes) → Past (place_of s) rs → Past (place_of s) ss → union_rows rs (s ∷ ss) ≡ s ∷ union_rows rs ss
unfolding union_rows
union_second rs s ss g h = insert_front s (union_rows rs ss) (past_union (place_of s) rs ss g h)

-- ---- whether they clash

-- a row clashes with none that all stand past it,
none_past : (r : Bytes) (ss : List Bytes) → Past (place_of r) ss → any_of (clashes r) ss ≡ false
none_past r [] h = refl
none_past r (s ∷ ss) h = rw (before_differs (place_of r) (place_of s) h.0) (none_past r ss h.1)

pub clash_first : (r : Bytes) (rs ss : List Bytes) → Past (place_of r) ss → has_clash (r ∷ rs) ss ≡ has_clash rs ss
unfolding has_clash
clash_first r rs ss h = rw (none_past r ss h) refl

-- and none of them with it
pub clash_second : (rs : List Bytes) (s : Bytes) (ss : List Bytes) → Past (place_of s) rs → has_clash rs (s ∷ ss) ≡ has_clash rs ss
unfolding has_clash
clash_second [] s ss h = refl
clash_second (r ∷ rs) s ss h =
    rw (after_differs (place_of r) (place_of s) h.0) (ap (λ later. any_of (clashes r) ss || later) (clash_second rs s ss h.1))

pub clash_shared : (r : Bytes) (rs : List Bytes) (s : Bytes) (ss : List Bytes) → place_of r ≡ place_of s → Past (place_of r) rs → Past (place_of s) ss
    → has_clash (r ∷ rs) (s ∷ ss) ≡ (not (same r s) || has_clash rs ss)
unfolding has_clash
clash_shared r rs s ss e g h =
    let there : same_pos (place_of r) (place_of s) ≡ true = rw e (same_pos_refl (place_of s)) in
    rw (there, none_past r ss (rw e h), or_none (not (same r s))) (ap (λ later. not (same r s) || later) (clash_second rs s ss (rw e at g)))

-- ---- in order

rising_insert : (r : Bytes) (rs : List Bytes) → Rising rs → Rising (insert_row r rs)
unfolding insert_row
rising_insert r [] h = (tt, tt)
rising_insert r (s ∷ rest) h = go (same_pos (place_of r) (place_of s)) refl (before (place_of r) (place_of s)) refl (rising_insert r rest h.1)
  where
    stands_past : same_pos (place_of r) (place_of s) ≡ false → before (place_of r) (place_of s) ≡ false → before (place_of s) (place_of r) ≡ true
    stands_past differ late =
        ⊎_elim (λ e. absurd (true≢false (sym (same_pos_refl (place_of s)) ∙ rw e at differ))) (λ p. p) (at_or_past (place_of r) (place_of s) late)

    go : (same : Bool) → same_pos (place_of r) (place_of s) ≡ same → (first : Bool) → before (place_of r) (place_of s) ≡ first
        → Rising (insert_row r rest) → Rising (cond same (s ∷ rest) (cond first (r ∷ s ∷ rest) (s ∷ insert_row r rest)))
    go true e first f later = h
    go false e true f later = ((f, past_earlier (place_of r) (place_of s) rest f h.0), h)
    go false e false f later = (past_insert r (place_of s) rest (stands_past e f) h.0, later)

pub rising_union : (rs ss : List Bytes) → Rising rs → Rising (union_rows rs ss)
unfolding union_rows
rising_union rs [] h = h
rising_union rs (s ∷ ss) h = rising_insert s (union_rows rs ss) (rising_union rs ss h)
