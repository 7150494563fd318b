-- Numbers and lines as text, in ASCII.
-- Assumes nothing.
use Rattle.std.specs.Prelude.{cond, [], ◌∷◌, ◌++◌, ℕ, zero, suc, ◌+◌, ◌/◌, ◌%◌, ltb, ℤ, pos, negsuc, nat_abs}
use Rattle.columns.specs.Column.{Bytes}
use Rattle.columns.specs.Ascii.{ascii}

-- ---- numbers

-- the character of a digit
abbrev pub digit : ℕ → ℕ
digit d = 48 + d

-- n with the fewest decimal digits, of which there are at most one more than `more`
unfoldable pub decimal_within : ℕ → ℕ → Bytes
decimal_within zero n = digit n ∷ []
decimal_within (suc more) n =
    let front = decimal_within more (n / 10) in
    cond (ltb n 10) (digit n ∷ []) (front ++ digit (n % 10) ∷ [])

-- n in decimal: no number has more digits than one more than itself
unfoldable pub decimal_of : ℕ → Bytes
decimal_of n = decimal_within n n

-- the sign of a number, and a signed number in decimal
abbrev pub sign_text : ℤ → Bytes
sign_text (pos n) = []
sign_text (negsuc n) = ascii "-"

unfoldable pub signed_text : ℤ → Bytes
signed_text z = sign_text z ++ decimal_of (nat_abs z)

-- ---- lines: "one to a line"

-- a name, such as `blocks=`, and a number
unfoldable pub line_of : Bytes → ℕ → Bytes
line_of name n = name ++ decimal_of n ++ ascii "\n"
