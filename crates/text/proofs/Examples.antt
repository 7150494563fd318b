-- Worked examples of the text, computed: numbers and lines.
-- Assumes nothing.
use mathlib.Core.Path.{◌≡◌, refl}
use lib.IntN.{negsuc}
use Rattle.columns.specs.Ascii.{ascii}
use Rattle.text.specs.Text.{decimal_within, decimal_of, signed_text, line_of}

largest : decimal_of 18446744073709551615 ≡ ascii "18446744073709551615"
unfolding decimal_of decimal_within
largest = refl

least : signed_text (negsuc 2147483647) ≡ ascii "-2147483648"
unfolding signed_text decimal_of decimal_within
least = refl

line : line_of (ascii "rounds=") 17 ≡ ascii "rounds=17\n"
unfolding line_of decimal_of decimal_within
line = refl
