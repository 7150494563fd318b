-- Which rows two lists have in one: those of the first, those of the second where none clash, and no others. And a list of rows in order is the only
-- one that has its rows.
-- Assumes nothing.
use mathlib.Core.Path.{◌≡◌, refl, ap, ap₂, sym, ◌∙◌}
use mathlib.Core.Logic.{◌⊎◌, inl, inr, ⊎_elim}
use mathlib.Core.Bool.{Bool, true, false, cond, not, true≢false}
use mathlib.Core.List.Memᴰ
use mathlib.Core.List.{List, [], ◌∷◌, Memᴰ}
use borrow.Author.Tests.{not-true}
use Rattle.columns.specs.Column.{Bytes, same}
use Rattle.columns.proofs.Columns.{same_true, same_refl}
use Rattle.columns.proofs.Members.{all_member}
use Rattle.columns.proofs.Truth.{and_true, or_true, or_false, not_false}
use Rattle.places.specs.declared.Pos.{Pos}
use Rattle.places.specs.Places.{same_pos, before}
use Rattle.places.proofs.Order.{same_pos_true, same_pos_refl, before_irrefl, before_trans}
use Rattle.unions.specs.Union.{place_of, insert_row, union_rows, clashes, any_of, has_clash}
use Rattle.unions.proofs.Rising.{Past, Rising}

-- ---- a row put among others

module _ (r : Bytes) where
  -- they are there still
  insert_keeps : (x : Bytes) (rs : List Bytes) → Memᴰ x rs → Memᴰ x (insert_row r rs)
  unfolding insert_row
  insert_keeps x [] m = absurd (Memᴰ.not-nil m)
  insert_keeps x (s ∷ rest) m = go (same_pos (place_of r) (place_of s)) (before (place_of r) (place_of s)) (insert_keeps x rest)
    where
      go : (there first : Bool) → (Memᴰ x rest → Memᴰ x (insert_row r rest))
          → Memᴰ x (cond there (s ∷ rest) (cond first (r ∷ s ∷ rest) (s ∷ insert_row r rest)))
      go true first later = m
      go false true later = Memᴰ.tail m
      go false false later = ⊎_elim (λ e. Memᴰ.head e) (λ t. Memᴰ.tail (later t)) (Memᴰ.cases_cons m)

  -- and so is the row, where the one at its position, if there is one, is the same
  insert_has : (rs : List Bytes) → ((s : Bytes) → Memᴰ s rs → place_of r ≡ place_of s → r ≡ s) → Memᴰ r (insert_row r rs)
  unfolding insert_row
  insert_has [] h = Memᴰ.head refl
  insert_has (s ∷ rest) h = go (same_pos (place_of r) (place_of s)) refl (before (place_of r) (place_of s)) (insert_has rest (λ x m. h x (Memᴰ.tail m)))
    where
      go : (there : Bool) → same_pos (place_of r) (place_of s) ≡ there → (first : Bool) → Memᴰ r (insert_row r rest)
          → Memᴰ r (cond there (s ∷ rest) (cond first (r ∷ s ∷ rest) (s ∷ insert_row r rest)))
      go true e first later = Memᴰ.head (h s (Memᴰ.head refl) (same_pos_true (place_of r) (place_of s) e))
      go false e true later = Memᴰ.head refl
      go false e false later = Memᴰ.tail later

  -- and no other
  insert_only : (x : Bytes) (rs : List Bytes) → Memᴰ x (insert_row r rs) → (x ≡ r) ⊎ Memᴰ x rs
  unfolding insert_row
  insert_only x [] m = ⊎_elim inl (λ t. inr t) (Memᴰ.cases_cons m)
  insert_only x (s ∷ rest) m = go (same_pos (place_of r) (place_of s)) (before (place_of r) (place_of s)) m (insert_only x rest)
    where
      go : (there first : Bool) → Memᴰ x (cond there (s ∷ rest) (cond first (r ∷ s ∷ rest) (s ∷ insert_row r rest)))
          → (Memᴰ x (insert_row r rest) → (x ≡ r) ⊎ Memᴰ x rest) → (x ≡ r) ⊎ Memᴰ x (s ∷ rest)
      go true first n later = inr n
      go false true n later = Memᴰ.cases_cons n
      go false false n later =
          ⊎_elim (λ e. inr (Memᴰ.head e)) (λ t. ⊎_elim inl (λ u. inr (Memᴰ.tail u)) (later t)) (Memᴰ.cases_cons n)

-- ---- rows at one position

-- where nothing clashes, rows of both at one position are the same
none_clashes : (r s : Bytes) (ss : List Bytes) → any_of (clashes r) ss ≡ false → Memᴰ s ss → place_of r ≡ place_of s → r ≡ s
none_clashes r s [] h m e = absurd (Memᴰ.not-nil m)
none_clashes r s (x ∷ rest) h m e =
    let (first, later) = or_false (clashes r x) (any_of (clashes r) rest) h in
    ⊎_elim
    (λ f.
    let here : place_of r ≡ place_of x = e ∙ ap place_of f in
    let there : same_pos (place_of r) (place_of x) ≡ true = rw here (same_pos_refl (place_of x)) in
    same_true r x (not_false (same r x) (rw there at first)) ∙ sym f)
    (λ t. none_clashes r s rest later t e)
    (Memᴰ.cases_cons m)

pub shared_same : (r s : Bytes) (rs ss : List Bytes) → has_clash rs ss ≡ false → Memᴰ r rs → Memᴰ s ss → place_of r ≡ place_of s → r ≡ s
unfolding has_clash
shared_same r s [] ss h m n e = absurd (Memᴰ.not-nil m)
shared_same r s (x ∷ rest) ss h m n e =
    let (first, later) = or_false (any_of (clashes x) ss) _ h in
    ⊎_elim (λ f. rw f (none_clashes x s ss first n (rw f at e))) (λ t. shared_same r s rest ss later t n e) (Memᴰ.cases_cons m)

-- rows of both that stand at one position and are not the same
pub record Clashing (rs ss : List Bytes) : Type 0 where
  pub one : Bytes
  pub other : Bytes
  pub in_first : Memᴰ one rs
  pub in_second : Memᴰ other ss
  pub shared : place_of one ≡ place_of other
  pub differ : ¬ (one ≡ other)

one_clashes : (r : Bytes) (rs ss : List Bytes) → Memᴰ r rs → any_of (clashes r) ss ≡ true → Clashing rs ss
one_clashes r rs [] m h = absurd (true≢false (sym h))
one_clashes r rs (s ∷ rest) m h =
    ⊎_elim
    (λ e.
    let (there, differ) = and_true (same_pos (place_of r) (place_of s)) (not (same r s)) e in
    record {
      one = r;
      other = s;
      in_first = m;
      in_second = Memᴰ.head refl;
      shared = same_pos_true (place_of r) (place_of s) there;
      differ = λ f. true≢false (sym (same_refl s) ∙ rw f at (not-true (same r s) differ));
    })
    (λ e. let c = one_clashes r rs rest m e in record { one = c.one; other = c.other; in_first = c.in_first; in_second = Memᴰ.tail c.in_second; shared = c.shared; differ = c.differ })
    (or_true (clashes r s) (any_of (clashes r) rest) h)

-- where the lists clash there are such rows,
pub some_clash : (rs ss : List Bytes) → has_clash rs ss ≡ true → Clashing rs ss
unfolding has_clash
some_clash [] ss h = absurd (true≢false (sym h))
some_clash (r ∷ rest) ss h =
    ⊎_elim (λ e. one_clashes r (r ∷ rest) ss (Memᴰ.head refl) e)
    (λ e. let c = some_clash rest ss e in record { one = c.one; other = c.other; in_first = Memᴰ.tail c.in_first; in_second = c.in_second; shared = c.shared; differ = c.differ })
    (or_true (any_of (clashes r) ss) _ h)

-- and where there are such rows they clash
pub clash_some : (rs ss : List Bytes) → Clashing rs ss → has_clash rs ss ≡ true
clash_some rs ss c = go (has_clash rs ss) refl
  where
    go : (b : Bool) → has_clash rs ss ≡ b → b ≡ true
    go true e = refl
    go false e = absurd (c.differ (shared_same c.one c.other rs ss e c.in_first c.in_second c.shared))

-- a row of those past q stands past q
past_member : (q : Pos) (x : Bytes) (rs : List Bytes) → Past q rs → Memᴰ x rs → before q (place_of x) ≡ true
past_member q x rs h m = all_member (λ r. before q (place_of r) ≡ true) rs h x m

-- ---- two lists in one

pub union_has_first : (x : Bytes) (rs ss : List Bytes) → Memᴰ x rs → Memᴰ x (union_rows rs ss)
unfolding union_rows
union_has_first x rs [] m = m
union_has_first x rs (s ∷ ss) m = insert_keeps s x (union_rows rs ss) (union_has_first x rs ss m)

pub union_only : (x : Bytes) (rs ss : List Bytes) → Memᴰ x (union_rows rs ss) → Memᴰ x rs ⊎ Memᴰ x ss
unfolding union_rows
union_only x rs [] m = inl m
union_only x rs (s ∷ ss) m =
    ⊎_elim (λ e. inr (Memᴰ.head e)) (λ t. ⊎_elim inl (λ u. inr (Memᴰ.tail u)) (union_only x rs ss t)) (insert_only s x (union_rows rs ss) m)

module _ (rs : List Bytes) where
  pub union_has_second : (x : Bytes) (ss : List Bytes) → Rising ss → ((r s : Bytes) → Memᴰ r rs → Memᴰ s ss → place_of r ≡ place_of s → r ≡ s)
      → Memᴰ x ss → Memᴰ x (union_rows rs ss)
  unfolding union_rows
  union_has_second x [] up agree m = absurd (Memᴰ.not-nil m)
  union_has_second x (s ∷ ss) up agree m =
      ⊎_elim
      (λ e. rw e (insert_has s (union_rows rs ss) (λ y n f. ⊎_elim (λ t. sym (agree y s t (Memᴰ.head refl) (sym f))) (λ t. absurd (later y t f)) (union_only y rs ss n))))
      (λ t. insert_keeps s x (union_rows rs ss) (union_has_second x ss up.1 (λ r y n o. agree r y n (Memᴰ.tail o)) t))
      (Memᴰ.cases_cons m)
    where
      later : (y : Bytes) → Memᴰ y ss → place_of s ≡ place_of y → ⊥
      later y t f = before_irrefl (place_of s) (rw (sym f) at (past_member (place_of s) y ss up.0 t))

-- ---- lists in order with the same rows

module _ {x y : Bytes} {xs ys : List Bytes} (ups : Rising (x ∷ xs)) (vps : Rising (y ∷ ys)) (over : (z : Bytes) → Memᴰ z (x ∷ xs) → Memᴰ z (y ∷ ys)) where
  -- the first of one is the first of the other, or stands past it
  first_same : (x ≡ y) ⊎ (before (place_of y) (place_of x) ≡ true)
  first_same =
      ⊎_elim inl (λ t. inr (past_member (place_of y) x ys vps.0 t)) (Memᴰ.cases_cons (over x (Memᴰ.head refl)))

  -- and where they are the same, each later one is a later one of the other
  later_same : x ≡ y → (z : Bytes) → Memᴰ z xs → Memᴰ z ys
  later_same e z m =
      ⊎_elim
      (λ f. let same_row : z ≡ x = f ∙ sym e in absurd (before_irrefl (place_of x) (rw same_row at (past_member (place_of x) z xs ups.0 m))))
      (λ t. t)
      (Memᴰ.cases_cons (over z (Memᴰ.tail m)))

pub rising_unique : (rs ss : List Bytes) → Rising rs → Rising ss → ((z : Bytes) → Memᴰ z rs → Memᴰ z ss)
    → ((z : Bytes) → Memᴰ z ss → Memᴰ z rs) → rs ≡ ss
rising_unique [] [] up vp over back = refl
rising_unique [] (s ∷ ss) up vp over back = absurd (Memᴰ.not-nil (back s (Memᴰ.head refl)))
rising_unique (r ∷ rs) [] up vp over back = absurd (Memᴰ.not-nil (over r (Memᴰ.head refl)))
rising_unique (r ∷ rs) (s ∷ ss) up vp over back =
    let same_first : r ≡ s =
    ⊎_elim (λ e. e)
    (λ p. ⊎_elim sym (λ q. absurd (before_irrefl (place_of s) (before_trans (place_of s) (place_of r) (place_of s) p q))) (first_same vp up back))
    (first_same up vp over) in
    ap₂ ◌∷◌ same_first (rising_unique rs ss up.1 vp.1 (later_same up vp over same_first) (later_same vp up back (sym same_first)))
