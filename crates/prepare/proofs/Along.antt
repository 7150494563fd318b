-- Laws: where a row stands beside another, the arm that leads to it is read from the class.
-- Assumes nothing.
use mathlib.Core.Path.{◌≡◌, refl, ap, ap₂, sym, ◌∙◌}
use mathlib.Core.Bool.{Bool, not, ◌&&◌, ◌||◌}
use mathlib.Core.Logic.{by_cases}
use mathlib.Core.List.{List, [], ◌∷◌, Memᴰ}
use Prim.Native.Nat.{ℕ, ◌-◌, ◌<◌}
use native.Mathlib.Decide.{ℕ_discrete}
use native.Mathlib.Omega.{arith}
use lib.Dec.{eqb}
use borrow.Author.Tests.{eq-eqb, ne_eqb}
use Rattle.columns.specs.Column.{Bytes}
use Rattle.places.specs.Places.{horizontals, beside, same_pos}
use Rattle.places.proofs.Order.{same_pos_true}
use Rattle.world.specs.Rows.{rows, pos_of}
use Rattle.refusals.specs.Accepted.{Table}
use Rattle.refusals.proofs.Accepted.{find-at}
use Rattle.traits.specs.Traits.{traits, is_arm, rises_by}
use Rattle.arms.specs.Arms.{arm_of}
use Rattle.edges.specs.Edges.{some_of, arm_to, along_arm}
use Rattle.edges.proofs.Networks.{and_same}
use Rattle.classes.specs.Class.{arm_in, has_arm_in, rises_by_in}
use Rattle.prepare.specs.Classes.{arm_bits}
use Rattle.prepare.proofs.Decoded.{ArmNumber, no_arm, rise_number, arm_number}
use Rattle.prepare.proofs.Rows.{class_at, class-at}

-- arms compare alike, counted from 0 and from 1
pub less_one : {a b : ℕ} → ArmNumber a → ArmNumber b → eqb (a - 1) (b - 1) ≡ eqb a b
less_one {a} {b} h g =
    by_cases (ℕ_discrete a b) (λ e. rw (e, eq-eqb b b refl, eq-eqb (b - 1) (b - 1) refl) refl)
    (λ n. rw (ne_eqb a b n) (ne_eqb (a - 1) (b - 1) (omega (arith, h.some, g.some))))

module _ (p t : Bytes) (table : Table t) (i x : ℕ) (hi : i < rows t) (hx : x < rows t) (f : ℕ) (m : Memᴰ f horizontals) where
  module _ (e : beside (pos_of t i) f ≡ pos_of t x) where
    arm_is : arm_in (class_at p t i) f ≡ arm_of p t i f - 1
    unfolding arm_bits
    arm_is = (class-at p t table i hi).arms f m ∙ rw (find-at t table (beside (pos_of t i) f) x hx (sym e))

    pub has-arm : has_arm_in (class_at p t i) f ≡ is_arm (arm_of p t i f)
    has-arm = rw arm_is (ap not (less_one (arm_number t table i hi p f) no_arm))

    pub rises-by : (a : ℕ) → a < rows t → rises_by_in (class_at p t a) (arm_in (class_at p t i) f) ≡ rises_by (traits p t a) (arm_of p t i f)
    rises-by a ha =
        let rise = rise_number p t a in
        rw (arm_is, (class-at p t table a ha).rise, less_one rise (arm_number t table i hi p f), less_one rise no_arm)

  arm-to : (same_pos (beside (pos_of t i) f) (pos_of t x) && has_arm_in (class_at p t i) f) ≡ arm_to (arm_of p t) t i x f
  unfolding arm_to
  arm-to = and_same (same_pos (beside (pos_of t i) f) (pos_of t x)) (λ e. has-arm (same_pos_true _ _ e))

some_same : (g h : ℕ → Bool) (fs : List ℕ) → ((f : ℕ) → Memᴰ f fs → g f ≡ h f) → some_of g fs ≡ some_of h fs
some_same g h [] e = refl
some_same g h (f ∷ fs) e = ap₂ ◌||◌ (e f (Memᴰ.head refl)) (some_same g h fs (λ f m. e f (Memᴰ.tail m)))

-- row x is along an arm of dust i
pub along-arm : (p t : Bytes) → Table t → (i x : ℕ) → i < rows t → x < rows t
    → some_of (λ f. same_pos (beside (pos_of t i) f) (pos_of t x) && has_arm_in (class_at p t i) f) horizontals ≡ along_arm (arm_of p t) t i x
unfolding along_arm
along-arm p t table i x hi hx = some_same _ (arm_to (arm_of p t) t i x) horizontals (arm-to p t table i x hi hx)
