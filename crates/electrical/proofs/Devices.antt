-- Laws of valid device columns: what the check says of one, and that the row-wise larger of two is valid.
-- Assumes nothing.
use mathlib.Core.Path.{◌≡◌, ap, sym, ◌∙◌}
use mathlib.Core.Logic.{◌⊎◌, inl, inr, ⊎_elim, by_cases}
use mathlib.Core.Bool.{true, not}
use Prim.Native.Nat.{ℕ, ◌≤◌, ◌<◌, max}
use native.Mathlib.Nat.{max-eq_left, max-eq_right, max-le}
use native.Mathlib.Decide.{dec_le, dec_lt}
use native.Mathlib.Omega.{arith}
use lib.ListN.{length, get_or-eq_default}
use lib.Dec.{eqb}
use borrow.Author.Tests.{eqb-true, eq-eqb, not-false}
use Rattle.columns.specs.Column.{Bytes, Column, row, tabulate}
use Rattle.columns.specs.Signal.{max_signal}
use Rattle.columns.proofs.Columns.{length_tabulate, row_tabulate}
use Rattle.network.specs.Compare.{Larger, AtEveryRow₃}
use Rattle.world.specs.Rows.{rows, kind_of}
use Rattle.refusals.specs.Check.{accepted}
use Rattle.refusals.proofs.Passed.{passed_values, values_pass}
use Rattle.emitted.specs.Emitted.{good_device, is_bad_device, check_devices}
use Rattle.electrical.specs.Join.{larger_of}

pub record Devices (t : Bytes) (d : Column) : Type 0 where
  pub sized : length d ≡ rows t
  pub good : (i : ℕ) → i < rows t → good_device (kind_of t i) (row d i) ≡ true
  pub low : (i : ℕ) → i < rows t → row d i ≤ max_signal

pub valid_devices : (t : Bytes) (d : Column) → check_devices t d ≡ accepted → Devices t d
unfolding check_devices
valid_devices t d h =
    let v = passed_values (eqb (length d) (rows t)) (is_bad_device t d) (row d) (rows t) h in
    record { sized = eqb-true _ _ v.of_size; good = λ i l. not-false _ (v.good i l); low = v.low }

pub devices_valid : (t : Bytes) (d : Column) → Devices t d → check_devices t d ≡ accepted
unfolding check_devices
devices_valid t d v =
    values_pass (eqb (length d) (rows t)) (is_bad_device t d) (row d) (rows t)
    (record { of_size = eq-eqb _ _ v.sized; good = λ i l. ap not (v.good i l); low = v.low })

-- ---- the row-wise larger of two

one_of : (x y : ℕ) → (max x y ≡ x) ⊎ (max x y ≡ y)
one_of x y = by_cases (dec_le x y) (λ h. inr (max-eq_right h)) (λ n. let h : y ≤ x = omega arith in inl (max-eq_left h))

good_larger : (k x y : ℕ) → good_device k x ≡ true → good_device k y ≡ true → good_device k (max x y) ≡ true
good_larger k x y g h = ⊎_elim (λ e. rw e g) (λ e. rw e h) (one_of x y)

module _ (t : Bytes) {a b : Column} (va : Devices t a) (vb : Devices t b) where
  pub is_larger : AtEveryRow₃ Larger a b (larger_of a b)
  unfolding larger_of
  is_larger = record { at = λ i. by_cases (dec_lt i (length a)) (λ l. sym (row_tabulate (length a) _ i l)) (λ n. past i (omega arith)) }
    where
      c : Column
      c = tabulate (length a) (λ i. max (row a i) (row b i))

      past : (i : ℕ) → length a ≤ i → max (row a i) (row b i) ≡ row c i
      past i h =
          let lb : length b ≤ i = omega (arith, va.sized, vb.sized) in
          let lc : length c ≤ i = rw (length_tabulate (length a) 0 _) h in
          rw (get_or-eq_default a 0 h, get_or-eq_default b 0 lb, get_or-eq_default c 0 lc)

  pub larger_devices : Devices t (larger_of a b)
  unfolding larger_of
  larger_devices =
      record {
        sized = length_tabulate (length a) 0 _ ∙ va.sized;
        good = λ i l.
            rw (row_tabulate (length a) (λ i. max (row a i) (row b i)) i (rw va.sized l))
            (good_larger (kind_of t i) (row a i) (row b i) (va.good i l) (vb.good i l));
        low = λ i l. rw (row_tabulate (length a) (λ i. max (row a i) (row b i)) i (rw va.sized l)) (max-le (va.low i l) (vb.low i l));
      }
