-- Laws of the places by an accepted position: from each the opposite step leads back, and no other place is one along a horizontal facing.
-- Assumes nothing.
use Rattle.std.proofs.Common.{Some}
use mathlib.Core.Path.{◌≡◌, refl, ap, sym, ◌∙◌}
use mathlib.Core.Bool.{Bool, true, not, cond, ◌&&◌, ◌||◌}
use mathlib.Core.List.{Memᴰ}
use Prim.Native.Nat.{ℕ, ◌+◌, ◌≤◌, ◌<◌}
use native.Mathlib.Omega.{arith}
use lib.Dec.{eqb}
use lib.IntN.{ℤ, neg_ℤ}
use borrow.Author.Count.{below_none, below_more}
use borrow.Author.Tests.{eqb-true, eq-eqb}
use lib.Signed.{mag}
use Rattle.columns.specs.Column.{Bytes}
use Rattle.columns.specs.First.{all_below}
use Rattle.columns.proofs.First.{all_at}
use Rattle.places.specs.declared.Pos.{Pos}
use Rattle.places.specs.Signed.{zero_z, one, minus_one, sat_add}
use Rattle.places.specs.Places.{horizontals, offset, opposite, step, beside, below, same_pos}
use Rattle.places.proofs.Order.{same_pos_true, same_pos_refl}
use Rattle.places.proofs.Steps.{InRange, sat_add_exact, sat_add_none, offset_back, Step, down, level, up, step_small, step_back, facing_step, sideways, sideways_back, over_beside}
use Rattle.places.proofs.Near.{shifted, shifted_sum}
use Rattle.world.specs.Rows.{pos_of}
use Rattle.classes.specs.Towards.{is_beside, Above}
use Rattle.adjacency.specs.Adjacency.{place_by}
use Rattle.prepare.proofs.Rows.{same_truth}

step_twice : {d : ℤ} → Step d → neg_ℤ (neg_ℤ d) ≡ d
step_twice down = refl
step_twice level = refl
step_twice up = refl

-- ---- a step and the opposite one

module _ {dx dy dz : ℤ} (x : Step dx) (y : Step dy) (z : Step dz) where
  leads_back : (q r : Pos) → InRange q → same_pos (offset q dx dy dz) r ≡ true → same_pos (offset r (neg_ℤ dx) (neg_ℤ dy) (neg_ℤ dz)) q ≡ true
  leads_back q r inside e =
      rw (← same_pos_true _ r e, offset_back q inside dx dy dz (step_small x) (step_small y) (step_small z)) (same_pos_refl q)

pub same_back : {dx dy dz : ℤ} → Step dx → Step dy → Step dz → (q r : Pos) → InRange q → InRange r
    → same_pos (offset q dx dy dz) r ≡ same_pos (offset r (neg_ℤ dx) (neg_ℤ dy) (neg_ℤ dz)) q
same_back {dx} {dy} {dz} x y z q r g h =
    same_truth (leads_back x y z q r g)
    (λ e. rw (step_twice x, step_twice y, step_twice z) at (leads_back (step_back x) (step_back y) (step_back z) r q h e))

module _ (q : Pos) (inside : InRange q) (f : ℕ) where
  pub beside_back : (r : Pos) → Memᴰ f horizontals → beside q f ≡ r → beside r (opposite f) ≡ q
  unfolding beside
  beside_back r m e = ap (λ r. beside r (opposite f)) (sym e) ∙ sideways_back q inside f m zero_z (omega arith)

  -- a step down and a level one, in either order
  pub beside_below : InRange (below q) → beside (below q) f ≡ below (beside q f)
  unfolding beside
  beside_below under =
      (λ i. record {
        x = sat_add (sat_add_none q.x (omega (arith, inside.x)) i) (step f).x;
        y = sat_add_none (below q).y (omega (arith, under.y)) i;
        z = sat_add (sat_add_none q.z (omega (arith, inside.z)) i) (step f).z;
      })
      ∙ sym (over_beside q inside f down)

-- ---- different steps

-- steps that lead to one number are one
module _ (a : ℤ) (h : mag a ≤ 1000000) where
  sum_shifted : {d : ℤ} → Step d → shifted (sat_add a d) + 4000000 ≡ shifted a + shifted d
  sum_shifted {d} s =
      let few : mag d ≤ 2 = omega (arith, step_small s) in
      rw (sat_add_exact a d (omega arith) few) (shifted_sum a d h few)

  sum_same : {d e : ℤ} → Step d → Step e → sat_add a d ≡ sat_add a e → shifted d ≡ shifted e
  sum_same {d} {e} x y same = omega (arith, sum_shifted x, sum_shifted y, ap shifted same)

-- a horizontal facing is told by its step among all that there are
abbrev told : ℕ → ℕ → Bool
told f g = not (eqb (shifted (step g).x) (shifted (step f).x) && eqb (shifted (step g).z) (shifted (step f).z)) || eqb g f

all_told : all_below (λ f. all_below (λ g. told (f + 1) (g + 1)) 6) 4 ≡ true
unfolding step
all_told = refl

-- the height of place k by a row
abbrev height : ℕ → ℤ
height k = cond (is_beside k) zero_z (cond (eqb k Above) one minus_one)

module _ (q r : Pos) (inside : InRange q) where
  -- of the six places the one beside along a horizontal facing is no other
  pub beside_told : (f k : ℕ) → f < 4 → k < 6 → same_pos (beside q (f + 1)) r ≡ true → same_pos (sideways q (k + 1) (height k)) r ≡ true → k ≡ f
  unfolding beside
  beside_told f k hf hk e g =
      let same : sideways q (k + 1) (height k) ≡ beside q (f + 1) = same_pos_true _ r g ∙ sym (same_pos_true _ r e) in
      let (fx, fz) = facing_step (f + 1) in
      let (kx, kz) = facing_step (k + 1) in
      let known = all_at (λ g. told (f + 1) (g + 1)) 6 (all_at (λ f. all_below (λ g. told (f + 1) (g + 1)) 6) 4 all_told f hf) k hk in
      let x = sum_same q.x inside.x kx fx (ap (λ p. p.x) same) in
      let z = sum_same q.z inside.z kz fz (ap (λ p. p.z) same) in
      omega (arith, eqb-true (k + 1) (f + 1) (rw (eq-eqb _ _ x, eq-eqb _ _ z) at known))

-- the six places by row j, each as one step
pub place_step : (t : Bytes) (j k : ℕ) → k < 6 → place_by t j k ≡ Some (sideways (pos_of t j) (k + 1) (height k))
unfolding place_by beside step
place_step t j =
    let P : ℕ → Type 0 = λ k. place_by t j k ≡ Some (sideways (pos_of t j) (k + 1) (height k)) in
    below_more P 5 (below_more P 4 (below_more P 3 (below_more P 2 (below_more P 1 (below_more P 0 (below_none P) refl) refl) refl) refl) refl) refl
