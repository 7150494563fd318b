-- Worked examples of the whole text, computed: the refusals that rest on the input's length alone.
-- Assumes nothing.
use mathlib.Core.Path.{◌≡◌}
use Prim.Native.Nat.{◌%◌, ◌≤◌, ◌<◌}
use native.Mathlib.Omega.{arith}
use lib.ListN.{length}
use borrow.Author.Tests.{ne_eqb}
use Rattle.columns.specs.Column.{Bytes}
use Rattle.columns.specs.Ascii.{ascii}
use Rattle.text.specs.Text.{decimal_within, decimal_of, line_of}
use Rattle.lines.specs.Lines.{refusal_text}
use Rattle.report.specs.Text.{settle_text}
use Rattle.report.proofs.Run.{crowded_text, short_text, ragged_text}

-- fewer bytes than a profile has
short : (input : Bytes) → length input < 13 → settle_text input ≡ ascii "refusal=1\nplace=0\n"
unfolding refusal_text line_of decimal_of decimal_within
short input h = short_text input h

-- "More than 32,781 bytes is number 3 before all else", but 32,782, which have the remainder 14
crowded : (input : Bytes) → 32783 ≤ length input → settle_text input ≡ ascii "refusal=3\nplace=0\n"
unfolding refusal_text line_of decimal_of decimal_within
crowded input h = crowded_text input h

-- "calls any other remainder number 2", whatever the profile is
ragged : (input : Bytes) → 13 ≤ length input → length input ≤ 32781 → ¬ (length input % 32 ≡ 13) → ¬ (length input % 32 ≡ 14) → settle_text input ≡ ascii "refusal=2\nplace=0\n"
unfolding refusal_text line_of decimal_of decimal_within
ragged input h l m n = ragged_text input h (omega arith) (rw (ne_eqb _ 13 m, ne_eqb _ 14 n))
