-- Document 02, Change 3: a profile with value 32 of the torch's byte, and the same without it. Assumes nothing.
use mathlib.Core.Path.{◌≡◌, refl}
use mathlib.Core.Logic.{by_cases}
use mathlib.Core.Bool.{false}
use Prim.Native.Nat.{ℕ, ◌/◌, ◌%◌}
use native.Mathlib.Decide.{ℕ_discrete, dec_lt}
use native.Mathlib.Omega.{arith}
use lib.ListN.{length, get_or, set, get_or-eq_default}
use borrow.Author.Tests.{ne_eqb}
use lib.Seq.{get_or-set_same, get_or-set_other, set_out}
use Rattle.columns.specs.Column.{Bytes}
use Rattle.blocks.specs.Kind.{RedstoneTorch}
use Rattle.blocks.specs.Profile.{says, torch_charges_above, properties_of}

-- the profile without the value: the torch's byte has the values below 32 alone
abbrev pub without_value : Bytes → Bytes
without_value p = set p RedstoneTorch (get_or p RedstoneTorch 0 % 32)

-- the torch's byte is its remainder by 32,
pub torch_byte : (p : Bytes) → get_or (without_value p) RedstoneTorch 0 ≡ get_or p RedstoneTorch 0 % 32
torch_byte p =
    by_cases (dec_lt RedstoneTorch (length p)) (λ l. get_or-set_same p RedstoneTorch _ 0 l)
    (λ n. let none : get_or p RedstoneTorch 0 ≡ 0 = get_or-eq_default p 0 (omega arith) in rw (set_out p RedstoneTorch _ (omega arith), none) refl)

-- and every other byte is as it was
pub other_byte : (p : Bytes) (k : ℕ) → ¬ (k ≡ RedstoneTorch) → get_or (without_value p) k 0 ≡ get_or p k 0
other_byte p k n = get_or-set_other p RedstoneTorch k _ 0 n

pub value_gone : (p : Bytes) → torch_charges_above (without_value p) ≡ false
unfolding says
value_gone p = rw (torch_byte p) (ne_eqb (get_or p RedstoneTorch 0 % 32 / 32 % 2) 1 (λ e. omega arith))

-- the remainder by 32 has the lower values
low_1 : (b : ℕ) → b % 32 / 1 % 2 ≡ b / 1 % 2
low_1 b = omega arith

low_2 : (b : ℕ) → b % 32 / 2 % 2 ≡ b / 2 % 2
low_2 b = omega arith

low_4 : (b : ℕ) → b % 32 / 4 % 2 ≡ b / 4 % 2
low_4 b = omega arith

low_8 : (b : ℕ) → b % 32 / 8 % 2 ≡ b / 8 % 2
low_8 b = omega arith

low_16 : (b : ℕ) → b % 32 / 16 % 2 ≡ b / 16 % 2
low_16 b = omega arith

-- every property of every kind is as it was
pub same_properties : (p : Bytes) (k : ℕ) → properties_of (without_value p) k ≡ properties_of p k
unfolding properties_of says
same_properties p k = by_cases (ℕ_discrete k RedstoneTorch) (λ e. rw (e, torch_byte p, low_1 _, low_2 _, low_4 _, low_8 _, low_16 _) refl) (λ n. rw (other_byte p k n) refl)
