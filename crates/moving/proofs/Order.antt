-- Laws: a move keeps the order of positions.
-- Assumes nothing.
use mathlib.Core.Path.{◌≡◌, refl, ap₂, sym, ◌∙◌}
use mathlib.Core.Bool.{Bool}
use Prim.Native.Nat.{ℕ, zero, suc}
use lib.Dec.{leb-zero, leb-suc-zero, leb-suc-suc, eqb-zero-suc, eqb-suc-zero, eqb-suc-suc}
use lib.IntN.{ℤ, pos, negsuc, suc_ℤ, pred_ℤ, suc-pred, neg_ℤ, ◌+ℤ◌, ◌-ℤ◌, +ℤ_idr, +ℤ_assoc, +ℤ_one, -ℤ_one, ℤ_ind}
use lib.Signed.{lt_z}
use Rattle.places.specs.declared.Pos.{Pos}
use Rattle.places.specs.Signed.{eq_z}
use Rattle.places.specs.Places.{before}
use Rattle.moving.specs.Move.{moved_by}

-- ---- whole numbers

-- a test of two numbers that says the same of the next two says the same of both sums with a third
module _ (test : ℤ → ℤ → Bool) (next : (a b : ℤ) → test (suc_ℤ a) (suc_ℤ b) ≡ test a b) (a b : ℤ) where
  last : (c d : ℤ) → test (pred_ℤ c) (pred_ℤ d) ≡ test c d
  last c d = sym (next (pred_ℤ c) (pred_ℤ d)) ∙ ap₂ test (suc-pred c) (suc-pred d)

  summed : (d : ℤ) → test (a +ℤ d) (b +ℤ d) ≡ test a b
  summed = ℤ_ind (λ d. test (a +ℤ d) (b +ℤ d) ≡ test a b) (ap₂ test (+ℤ_idr a) (+ℤ_idr b)) up down
    where
      up : (n : ℕ) → test (a +ℤ pos n) (b +ℤ pos n) ≡ test a b → test (a +ℤ (pos n +ℤ pos 1)) (b +ℤ (pos n +ℤ pos 1)) ≡ test a b
      up n h =
          ap₂ test (sym (+ℤ_assoc a (pos n) (pos 1)) ∙ +ℤ_one (a +ℤ pos n)) (sym (+ℤ_assoc b (pos n) (pos 1)) ∙ +ℤ_one (b +ℤ pos n))
          ∙ next (a +ℤ pos n) (b +ℤ pos n)
          ∙ h

      down : (n : ℕ) → test (a -ℤ pos n) (b -ℤ pos n) ≡ test a b → test (a +ℤ (neg_ℤ (pos n) -ℤ pos 1)) (b +ℤ (neg_ℤ (pos n) -ℤ pos 1)) ≡ test a b
      down n h =
          ap₂ test (sym (+ℤ_assoc a (neg_ℤ (pos n)) (negsuc 0)) ∙ -ℤ_one (a -ℤ pos n)) (sym (+ℤ_assoc b (neg_ℤ (pos n)) (negsuc 0)) ∙ -ℤ_one (b -ℤ pos n))
          ∙ last (a -ℤ pos n) (b -ℤ pos n)
          ∙ h

next_less : (a b : ℤ) → lt_z (suc_ℤ a) (suc_ℤ b) ≡ lt_z a b
next_less (pos a) (pos b) = leb-suc-suc (suc a) b
next_less (pos a) (negsuc zero) = leb-suc-zero (suc a)
next_less (pos a) (negsuc (suc b)) = refl
next_less (negsuc zero) (pos b) = leb-suc-suc 0 b ∙ leb-zero b
next_less (negsuc (suc a)) (pos b) = refl
next_less (negsuc zero) (negsuc zero) = refl
next_less (negsuc zero) (negsuc (suc b)) = sym (leb-suc-zero (suc b))
next_less (negsuc (suc a)) (negsuc zero) = sym (leb-suc-suc 0 a ∙ leb-zero a)
next_less (negsuc (suc a)) (negsuc (suc b)) = sym (leb-suc-suc (suc b) a)

next_same : (a b : ℤ) → eq_z (suc_ℤ a) (suc_ℤ b) ≡ eq_z a b
next_same (pos a) (pos b) = eqb-suc-suc a b
next_same (pos a) (negsuc zero) = eqb-suc-zero a
next_same (pos a) (negsuc (suc b)) = refl
next_same (negsuc zero) (pos b) = eqb-zero-suc b
next_same (negsuc (suc a)) (pos b) = refl
next_same (negsuc zero) (negsuc zero) = refl
next_same (negsuc zero) (negsuc (suc b)) = sym (eqb-zero-suc b)
next_same (negsuc (suc a)) (negsuc zero) = sym (eqb-suc-zero a)
next_same (negsuc (suc a)) (negsuc (suc b)) = sym (eqb-suc-suc a b)

less : (a b d : ℤ) → lt_z (a +ℤ d) (b +ℤ d) ≡ lt_z a b
less a b = summed lt_z next_less a b

same : (a b d : ℤ) → eq_z (a +ℤ d) (b +ℤ d) ≡ eq_z a b
same a b = summed eq_z next_same a b

-- ---- positions

module _ (by p q : Pos) where
  -- "ordered by x, then y, then z": moved positions are in the order of those they were
  pub moved_before : before (moved_by by p) (moved_by by q) ≡ before p q
  unfolding before
  moved_before =
      rw (less p.x q.x by.x, same p.x q.x by.x, less p.y q.y by.y, same p.y q.y by.y, less p.z q.z by.z)
