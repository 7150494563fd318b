-- Laws: positions are equal where the test says so, and their order is strict and total.
-- Assumes nothing.
use mathlib.Core.Path.{◌≡◌, refl, ap, sym, ◌∙◌}
use mathlib.Core.Bool.{Bool, true, false, ◌&&◌, ◌||◌, false≢true}
use mathlib.Core.Logic.{◌⊎◌, inl, inr, ⊎_elim, by_cases}
use mathlib.Core.List.{List, [], ◌∷◌, Memᴰ}
use native.Mathlib.Decide.{dec_lt}
use native.Mathlib.Omega.{arith}
use borrow.Author.Tests.{ltb-true, lt-ltb, eqb-true, eq-eqb}
use lib.IntN.{ℤ, pos, negsuc}
use lib.Signed.{lt_z}
use Rattle.columns.proofs.Truth.{and_true, or_true, refuted}
use Rattle.places.specs.declared.Pos.{Pos}
use Rattle.places.specs.Signed.{eq_z}
use Rattle.places.specs.Places.{same_pos, before, is_among}

-- ---- whole numbers

pub eq_z_true : (a b : ℤ) → eq_z a b ≡ true → a ≡ b
eq_z_true (pos a) (pos b) h = ap pos (eqb-true a b h)
eq_z_true (pos a) (negsuc b) h = absurd (false≢true h)
eq_z_true (negsuc a) (pos b) h = absurd (false≢true h)
eq_z_true (negsuc a) (negsuc b) h = ap negsuc (eqb-true a b h)

pub eq_z_refl : (a : ℤ) → eq_z a a ≡ true
eq_z_refl (pos a) = eq-eqb a a refl
eq_z_refl (negsuc a) = eq-eqb a a refl

lt_z_irrefl : (a : ℤ) → lt_z a a ≡ true → ⊥
lt_z_irrefl (pos a) h = omega (arith, ltb-true a a h)
lt_z_irrefl (negsuc a) h = omega (arith, ltb-true a a h)

lt_z_trans : (a b c : ℤ) → lt_z a b ≡ true → lt_z b c ≡ true → lt_z a c ≡ true
lt_z_trans (pos a) (pos b) (pos c) g h = lt-ltb a c (omega (arith, ltb-true a b g, ltb-true b c h))
lt_z_trans (pos a) (pos b) (negsuc c) g h = absurd (false≢true h)
lt_z_trans (pos a) (negsuc b) c g h = absurd (false≢true g)
lt_z_trans (negsuc a) (pos b) (pos c) g h = refl
lt_z_trans (negsuc a) (pos b) (negsuc c) g h = absurd (false≢true h)
lt_z_trans (negsuc a) (negsuc b) (pos c) g h = refl
lt_z_trans (negsuc a) (negsuc b) (negsuc c) g h = lt-ltb c a (omega (arith, ltb-true b a g, ltb-true c b h))

-- ---- positions

pub same_pos_true : (p q : Pos) → same_pos p q ≡ true → p ≡ q
unfolding same_pos
same_pos_true p q h =
    let (xy, c) = and_true (eq_z p.x q.x && eq_z p.y q.y) _ h in
    let (a, b) = and_true (eq_z p.x q.x) _ xy in
    λ i. record { x = eq_z_true p.x q.x a i; y = eq_z_true p.y q.y b i; z = eq_z_true p.z q.z c i }

pub same_pos_refl : (p : Pos) → same_pos p p ≡ true
unfolding same_pos
same_pos_refl p = rw (eq_z_refl p.x, eq_z_refl p.y, eq_z_refl p.z)

pub among_member : (ps : List Pos) (q : Pos) → is_among ps q ≡ true → Memᴰ q ps
among_member [] q h = absurd (false≢true h)
among_member (p ∷ ps) q h =
    ⊎_elim (λ e. Memᴰ.head (sym (same_pos_true p q e))) (λ e. Memᴰ.tail (among_member ps q e)) (or_true (same_pos p q) _ h)

-- a number below another
record Less (a b : ℤ) : Type 0 where
  less : lt_z a b ≡ true

less_trans : {a b c : ℤ} → Less a b → Less b c → Less a c
less_trans {a} {b} {c} g h = record { less = lt_z_trans a b c g.less h.less }

less_irrefl : {a : ℤ} → Less a a → ⊥
less_irrefl {a} h = lt_z_irrefl a h.less

-- p comes before q: by the first coordinate in which they differ
data Before (p q : Pos) : Type 0 where
  by_x : Less p.x q.x → Before p q
  by_y : p.x ≡ q.x → Less p.y q.y → Before p q
  by_z : p.x ≡ q.x → p.y ≡ q.y → Less p.z q.z → Before p q

before_cases : (p q : Pos) → before p q ≡ true → Before p q
unfolding before
before_cases p q h = ⊎_elim (λ a. by_x (record { less = a })) past_x (or_true (lt_z p.x q.x) _ h)
  where
    past_y : p.x ≡ q.x → (eq_z p.y q.y && lt_z p.z q.z) ≡ true → Before p q
    past_y e g = let (a, b) = and_true (eq_z p.y q.y) _ g in by_z e (eq_z_true p.y q.y a) (record { less = b })

    past_x : (eq_z p.x q.x && (lt_z p.y q.y || (eq_z p.y q.y && lt_z p.z q.z))) ≡ true → Before p q
    past_x g =
        let (a, b) = and_true (eq_z p.x q.x) _ g in
        let e : p.x ≡ q.x = eq_z_true p.x q.x a in
        ⊎_elim (λ c. by_y e (record { less = c })) (past_y e) (or_true (lt_z p.y q.y) _ b)

or_right : (a b : Bool) → b ≡ true → (a || b) ≡ true
or_right true b h = refl
or_right false b h = h

both : (a b : Bool) → a ≡ true → b ≡ true → (a && b) ≡ true
both a b g h = rw (g, h)

same : {a b : ℤ} → a ≡ b → eq_z a b ≡ true
same {a} {b} e = rw e (eq_z_refl b)

cases_before : (p q : Pos) → Before p q → before p q ≡ true
unfolding before
cases_before p q (by_x h) = rw h.less
cases_before p q (by_y e h) = or_right (lt_z p.x q.x) _ (both (eq_z p.x q.x) _ (same e) (rw h.less))
cases_before p q (by_z e f h) =
    or_right (lt_z p.x q.x) _
    (both (eq_z p.x q.x) _ (same e) (or_right (lt_z p.y q.y) _ (both (eq_z p.y q.y) _ (same f) h.less)))

-- by x, then y, then z
module _ (p q : Pos) where
  pub before_x : lt_z p.x q.x ≡ true → before p q ≡ true
  before_x h = cases_before p q (by_x (record { less = h }))

  pub before_y : p.x ≡ q.x → lt_z p.y q.y ≡ true → before p q ≡ true
  before_y e h = cases_before p q (by_y e (record { less = h }))

  pub before_z : p.x ≡ q.x → p.y ≡ q.y → lt_z p.z q.z ≡ true → before p q ≡ true
  before_z e f h = cases_before p q (by_z e f (record { less = h }))

pub before_irrefl : (p : Pos) → before p p ≡ true → ⊥
before_irrefl p h = go (before_cases p p h)
  where
    go : Before p p → ⊥
    go (by_x g) = less_irrefl g
    go (by_y _ g) = less_irrefl g
    go (by_z _ _ g) = less_irrefl g

-- positions of which one comes before the other are two
pub before_differs : (p q : Pos) → before p q ≡ true → same_pos p q ≡ false
before_differs p q h = refuted (same_pos p q) (λ e. before_irrefl q (rw (same_pos_true p q e) at h))

pub after_differs : (p q : Pos) → before q p ≡ true → same_pos p q ≡ false
after_differs p q h = refuted (same_pos p q) (λ e. before_irrefl q (rw (same_pos_true p q e) at h))

pub before_trans : (p q r : Pos) → before p q ≡ true → before q r ≡ true → before p r ≡ true
before_trans p q r g h = cases_before p r (go (before_cases p q g) (before_cases q r h))
  where
    go : Before p q → Before q r → Before p r
    go (by_x a) (by_x b) = by_x (less_trans a b)
    go (by_x a) (by_y e b) = by_x (rw e at a)
    go (by_x a) (by_z e f b) = by_x (rw e at a)
    go (by_y d a) (by_x b) = by_x (rw d b)
    go (by_y d a) (by_y e b) = by_y (d ∙ e) (less_trans a b)
    go (by_y d a) (by_z e f b) = by_y (d ∙ e) (rw f at a)
    go (by_z c d a) (by_x b) = by_x (rw c b)
    go (by_z c d a) (by_y e b) = by_y (c ∙ e) (rw d b)
    go (by_z c d a) (by_z e f b) = by_z (c ∙ e) (d ∙ f) (less_trans a b)

-- a and b as they stand in an order
data Compared {A : Type 0} (less : A → A → Type 0) (a b : A) : Type 0 where
  is_less : less a b → Compared less a b
  is_same : a ≡ b → Compared less a b
  is_more : less b a → Compared less a b

compared : (a b : ℤ) → Compared Less a b
compared (pos a) (pos b) = by_cases (dec_lt a b) (λ l. is_less (record { less = lt-ltb a b l })) (λ m. by_cases (dec_lt b a) (λ l. is_more (record { less = lt-ltb b a l })) (λ n. is_same (ap pos (omega arith))))
compared (pos a) (negsuc b) = is_more (record { less = refl })
compared (negsuc a) (pos b) = is_less (record { less = refl })
compared (negsuc a) (negsuc b) = by_cases (dec_lt b a) (λ l. is_less (record { less = lt-ltb b a l })) (λ m. by_cases (dec_lt a b) (λ l. is_more (record { less = lt-ltb a b l })) (λ n. is_same (ap negsuc (omega arith))))

positions : (p q : Pos) → Compared Before p q
positions p q = along-x (compared p.x q.x)
  where
    along-z : p.x ≡ q.x → p.y ≡ q.y → Compared Less p.z q.z → Compared Before p q
    along-z d e (is_less l) = is_less (by_z d e l)
    along-z d e (is_same f) = is_same (λ i. record { x = d i; y = e i; z = f i })
    along-z d e (is_more l) = is_more (by_z (sym d) (sym e) l)

    along-y : p.x ≡ q.x → Compared Less p.y q.y → Compared Before p q
    along-y d (is_less l) = is_less (by_y d l)
    along-y d (is_same e) = along-z d e (compared p.z q.z)
    along-y d (is_more l) = is_more (by_y (sym d) l)

    along-x : Compared Less p.x q.x → Compared Before p q
    along-x (is_less l) = is_less (by_x l)
    along-x (is_same d) = along-y d (compared p.y q.y)
    along-x (is_more l) = is_more (by_x l)

-- what does not come before q stands at q or past it
pub at_or_past : (p q : Pos) → before p q ≡ false → (p ≡ q) ⊎ (before q p ≡ true)
at_or_past p q h = go (positions p q)
  where
    go : Compared Before p q → (p ≡ q) ⊎ (before q p ≡ true)
    go (is_less l) = absurd (false≢true (sym h ∙ cases_before p q l))
    go (is_same e) = inl e
    go (is_more l) = inr (cases_before q p l)

pub before_asym : (p q : Pos) → before p q ≡ true → before q p ≡ false
before_asym p q h = refuted (before q p) (λ e. before_irrefl p (before_trans p q p h e))

-- r does not come before q, nor q before p: r does not come before p
pub not_before_trans : (p q r : Pos) → before q p ≡ false → before r q ≡ false → before r p ≡ false
not_before_trans p q r g h =
    refuted (before r p)
    (λ e. false≢true (sym h ∙ ⊎_elim (λ (same : q ≡ p). rw same e) (λ past. before_trans r p q e past) (at_or_past q p g)))
