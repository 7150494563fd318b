-- Worked examples of the lines, computed.
-- Assumes nothing.
use mathlib.Core.Path.{◌≡◌, refl}
use lib.IntN.{pos, negsuc}
use Rattle.columns.specs.Ascii.{ascii}
use Rattle.places.specs.Places.{cell}
use Rattle.text.specs.Text.{decimal_within, decimal_of, signed_text, line_of}
use Rattle.lines.specs.Lines.{row_text, refusal_text}

row_line : row_text (cell (negsuc 999999) (pos 0) (negsuc 0)) 15 9 0 ≡ ascii "row=-1000000,0,-1,15,9,0\n"
unfolding row_text signed_text decimal_of decimal_within
row_line = refl

refusal_lines : refusal_text 5 1023 ≡ ascii "refusal=5\nplace=1023\n"
unfolding refusal_text line_of decimal_of decimal_within
refusal_lines = refl
