-- The one test of a support's offset, in place of one for an offset that is given and one for an offset that is not.
-- Assumes nothing.
use mathlib.Core.Path.{◌≡◌, refl}
use mathlib.Core.Logic.{by_cases}
use mathlib.Core.Bool.{Bool, false, ◌&&◌, ◌||◌, or-false}
use Prim.Native.Nat.{ℕ, zero, suc, ◌+◌, ◌*◌, ◌%◌, ◌<◌}
use native.Mathlib.Decide.{ℕ_discrete, dec_lt}
use native.Mathlib.Omega.{arith}
use lib.Dec.{eqb, leb}
use borrow.Author.Tests.{eq-eqb, ne_eqb, le-leb, lt-leb}
use Rattle.layout.specs.Good.{is_unit}

abbrev is_offset : ℕ → ℕ → Bool
is_offset given d = leb ((d + given) % 256) (2 * given)

none : (d : ℕ) → d < 256 → is_offset 0 d ≡ eqb d 0
none d h =
    by_cases (ℕ_discrete d 0) (λ e. rw (eq-eqb d 0 e, le-leb ((d + 0) % 256) 0 (omega arith)) refl)
    (λ n. rw (ne_eqb d 0 n, lt-leb ((d + 0) % 256) 0 (omega arith)) refl)

one : (d : ℕ) → d < 256 → is_offset 1 d ≡ is_unit d
one d h =
    by_cases (ℕ_discrete d 255) (λ e. rw (eq-eqb d 255 e, lt-leb d 1 (omega arith), le-leb ((d + 1) % 256) 2 (omega arith)) refl)
    (λ n. by_cases (dec_lt d 2) (λ l. rw (le-leb d 1 (omega arith), le-leb ((d + 1) % 256) 2 (omega arith)) refl) (λ m. rw (ne_eqb d 255 n, lt-leb d 1 (omega arith), lt-leb ((d + 1) % 256) 2 (omega arith)) refl))

pub one_test : (given x y z : ℕ) → x < 256 → y < 256 → z < 256
    → (leb given 1 && (is_offset given x && is_offset given y && is_offset given z))
    ≡ ((eqb given 0 && (eqb x 0 && eqb y 0 && eqb z 0)) || (eqb given 1 && (is_unit x && is_unit y && is_unit z)))
one_test zero x y z a b c = rw (none x a, none y b, none z c, or-false) refl
one_test (suc zero) x y z a b c = rw (one x a, one y b, one z c) refl
one_test (suc (suc g)) x y z a b c =
    let more : (n : ℕ) → n < 2 → eqb (suc (suc g)) n ≡ false = λ n l. ne_eqb (suc (suc g)) n (λ e. omega arith) in
    rw (lt-leb (suc (suc g)) 1 (omega arith), more 0 (omega arith), more 1 (omega arith)) refl
