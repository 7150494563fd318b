-- Laws of queue bits and toggle bits.
-- Assumes nothing.
use mathlib.Core.Path.{◌≡◌, refl, ap, ap₂, ◌∙◌}
use Prim.Native.Nat.{ℕ, zero, suc, ◌+◌, ◌/◌, ◌%◌, ◌^◌, ◌≤◌, ◌<◌}
use native.Mathlib.Nat.{pow-suc}
use native.Mathlib.Numerals.{add-one}
use native.Mathlib.Omega.{arith}
use lib.Count.{ones, ones_step}
use lib.Pow.{mod-mod-pow, field}
use Rattle.columns.specs.Column.{Bytes}
use Rattle.states.specs.Row.{delay_of, bits_set}

-- the machine's count of a number of d bits
counted_in : (d n : ℕ) → n < 2 ^ d → ones n ≡ bits_set d n
unfolding bits_set ones
counted_in zero n h = let e : n ≡ 0 = omega arith in rw e
counted_in (suc d) n h =
    let h' : n / 2 < 2 ^ d = omega (arith, pow-suc 2 d) in
    ones_step n ∙ ap (λ (x : ℕ). n % 2 + x) (counted_in d (n / 2) h')

-- the bits above the low d make no difference
low_bits : (d n : ℕ) → bits_set d (n % 2 ^ d) ≡ bits_set d n
unfolding bits_set
low_bits zero n = refl
low_bits (suc d) n =
    let last : n % 2 ^ suc d % 2 ≡ n % 2 = rw (← add-one d) (mod-mod-pow n d 1) in
    let others : n % 2 ^ suc d / 2 ≡ n / 2 % 2 ^ d = rw (← add-one d) (field n d 1) in
    ap₂ ◌+◌ last (ap (bits_set d) others ∙ low_bits d (n / 2))

-- the machine's count of the low 31 bits
pub counted : (n : ℕ) → ones (n % 2147483648) ≡ bits_set 31 n
counted n = counted_in 31 (n % 2147483648) (omega arith) ∙ low_bits 31 n

-- the powers of two that a queue needs
pub small_power : (n : ℕ) → n ≤ 4 → 2 ^ n ≤ 16
small_power zero h = omega arith
small_power (suc zero) h = omega arith
small_power (suc (suc zero)) h = omega arith
small_power (suc (suc (suc zero))) h = omega arith
small_power (suc (suc (suc (suc zero)))) h = omega arith
small_power (suc (suc (suc (suc (suc k))))) h = absurd (omega arith)

pub delay_range : (t : Bytes) (i : ℕ) → (1 ≤ delay_of t i) × (delay_of t i ≤ 4)
unfolding delay_of
delay_range t i = (omega arith, omega arith)
