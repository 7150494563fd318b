-- The output for a whole input, by its profile and what follows it.
-- Assumes nothing.
use mathlib.Core.Path.{◌≡◌, refl}
use mathlib.Core.Bool.{false, and-false}
use mathlib.Core.List.{◌++◌}
use Prim.Native.Nat.{◌<◌}
use native.Mathlib.Omega.{arith}
use lib.ListN.{length, length-take}
use lib.Dec.{eqb}
use lib.Seq.{take_at, drop_at}
use Rattle.columns.specs.Column.{Bytes}
use Rattle.layout.specs.Good.{good_profile}
use Rattle.layout.proofs.Profiles.{other_length}
use Rattle.lines.specs.Lines.{refusal_text}
use Rattle.totals.specs.Month.{month_of}
use Rattle.month_lines.specs.Lines.{text_of, profile_of, output_of}

-- of a profile and the stream after it: what the program writes, where it has read them
pub output_counted : (p s : Bytes) → length p ≡ 13 → output_of (p ++ s) ≡ text_of p (month_of p s)
unfolding output_of
output_counted p s h = rw (take_at p s 13 h, drop_at p s 13 h)

-- of a bad profile, whatever follows it
pub output_refused : (input : Bytes) → good_profile (profile_of input) ≡ false → output_of input ≡ refusal_text 1 0
unfolding output_of text_of
output_refused input h = rw (h, and-false (eqb (length (profile_of input)) 13)) refl

-- of an input that ends before the profile does
pub output_short : (input : Bytes) → length input < 13 → output_of input ≡ refusal_text 1 0
output_short input h =
    let short = length-take 13 input in
    output_refused input (other_length (profile_of input) (λ e. omega (arith, e, short)) (λ e. omega (arith, e, short)))
