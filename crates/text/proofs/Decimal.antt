-- Laws of a number in decimal: the digits that `io::decimal` puts, and how few they are.
-- Assumes nothing.
use mathlib.Core.Path.{◌≡◌, refl}
use mathlib.Core.List.{[], ◌∷◌, ◌++◌}
use mathlib.Core.Logic.{by_cases}
use Prim.Native.Nat.{ℕ, zero, suc, ◌*◌, ◌-◌, ◌/◌, ◌%◌, ◌^◌, ◌≤◌, ◌<◌}
use native.Mathlib.Nat.{pow-suc}
use native.Mathlib.Numerals.{unary_clauses}
use native.Mathlib.Decide.{dec_lt}
use native.Mathlib.Omega.{arith}
use lib.ListN.{length, length-append}
use borrow.Author.Tests.{lt-ltb, le-ltb}
use Rattle.io.specs.Digits.{hex_digit_ascii, last_digits, IsDigitCount}
use Rattle.text.specs.Text.{digit, decimal_within, decimal_of}

power_pos : (k : ℕ) → 1 ≤ 10 ^ k
power_pos zero = omega arith
power_pos (suc k) = rw pow-suc (omega (arith, power_pos k))

-- a number of one digit
short : (more n : ℕ) → n < 10 → decimal_within more n ≡ digit n ∷ []
unfolding decimal_within
short zero n l = refl
short (suc more) n l = rw (lt-ltb n 10 l)

-- a longer one: its tenth's digits, and then the last
long : (more n : ℕ) → 10 ≤ n → decimal_within (suc more) n ≡ decimal_within more (n / 10) ++ digit (n % 10) ∷ []
unfolding decimal_within
long more n l = rw (le-ltb n 10 l)

-- ---- the digits that `io::decimal` puts

last_digit : (n : ℕ) → hex_digit_ascii (n % 10) ≡ digit (n % 10)
last_digit n = rw (lt-ltb (n % 10) 10 (omega arith))

-- the fewest digits: one below ten, and from ten on one more than the tenth has
one_digit : (n k : ℕ) → n < 10 → IsDigitCount 10 1 n k → k ≡ 1
one_digit n zero l f = absurd (omega (arith, f.0))
one_digit n (suc zero) l f = refl
one_digit n (suc (suc k)) l f =
    let least : 10 ^ k * 10 ≤ n = simp unary_clauses at (f.2 (omega arith)) in
    absurd (omega (arith, power_pos k))

more_digits : (n k : ℕ) → 10 ≤ n → IsDigitCount 10 1 n k → (j : ℕ) × (k ≡ suc j) × IsDigitCount 10 1 (n / 10) j
more_digits n zero l f = absurd (omega (arith, f.0))
more_digits n (suc zero) l f = absurd (omega (arith, f.1))
more_digits n (suc (suc j)) l f =
    let most : n < 10 ^ suc j * 10 = rw pow-suc at f.1 in
    let least : 10 ^ j * 10 ≤ n = simp unary_clauses at (f.2 (omega arith)) in
    let less : suc j - 1 ≡ j = omega arith in
    (suc j, refl, (omega arith, omega arith, λ _. rw less (omega arith)))

within_short : (more n k : ℕ) → n < 10 → IsDigitCount 10 1 n k → decimal_within more n ≡ last_digits 10 k n
within_short more n k l f = let same : n % 10 ≡ n = omega arith in rw (short more n l, one_digit n k l f, last_digit n, same)

within_is : (more n k : ℕ) → n ≤ more → IsDigitCount 10 1 n k → decimal_within more n ≡ last_digits 10 k n
within_is zero n k h f = within_short zero n k (omega arith) f
within_is (suc more) n k h f =
    by_cases (dec_lt n 10) (λ l. within_short (suc more) n k l f)
    (λ m.
    let l : 10 ≤ n = omega arith in
    let (j, is, tenth) = more_digits n k l f in
    rw (long more n l, is, last_digit n, within_is more (n / 10) j (omega arith) tenth))

pub decimal_is : (n k : ℕ) → IsDigitCount 10 1 n k → decimal_of n ≡ last_digits 10 k n
unfolding decimal_of
decimal_is n k f = within_is n n k (omega arith) f

-- ---- how many there are

short_few : (more n k : ℕ) → n < 10 → length (decimal_within more n) ≤ suc k
short_few more n k l = rw (short more n l) (omega arith)

within_few : (more n k : ℕ) → n ≤ more → n < 10 ^ suc k → length (decimal_within more n) ≤ suc k
within_few zero n k m h = short_few zero n k (omega arith)
within_few (suc more) n zero m h = short_few (suc more) n zero h
within_few (suc more) n (suc k) m h =
    let most : n < 10 ^ suc k * 10 = rw pow-suc at h in
    by_cases (dec_lt n 10) (λ l. short_few (suc more) n (suc k) l)
    (λ l. rw (long more n (omega arith), length-append) (omega (arith, within_few more (n / 10) k (omega arith) (omega arith))))

pub decimal_few : (n k : ℕ) → n < 10 ^ suc k → length (decimal_of n) ≤ suc k
unfolding decimal_of
decimal_few n k h = within_few n n k (omega arith) h
