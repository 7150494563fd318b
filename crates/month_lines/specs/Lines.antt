-- The lines that the program `month` writes: "one to a line". What stands in quotation marks is document 02's, Change 1.
-- Assumes nothing.
use Rattle.std.specs.Prelude.{cond, ◌&&◌, ◌++◌, ℕ, ◌+◌, length, take, drop, eqb}
use Rattle.columns.specs.Column.{Bytes, Column, row, concat_rows}
use Rattle.columns.specs.Ascii.{ascii}
use Rattle.layout.specs.Good.{good_profile}
use Rattle.text.specs.Text.{decimal_of, line_of}
use Rattle.lines.specs.Lines.{refusal_text}
use Rattle.streams.specs.declared.Ending.{Ending}
use Rattle.streams.specs.declared.Ending.TheVariants.{Whole, Cut, Count}
use Rattle.totals.specs.declared.Month.{Month}
use Rattle.totals.specs.Month.{month_of}

-- a name, its number and a figure, such as `rounds_1=5`
unfoldable pub numbered_line : Bytes → ℕ → ℕ → Bytes
numbered_line name k n = name ++ decimal_of k ++ ascii "=" ++ decimal_of n ++ ascii "\n"

-- such a line for each entry of a column; the first line has the number `first`
unfoldable pub numbered_lines : Bytes → ℕ → Column → Bytes
numbered_lines name first counts = concat_rows (length counts) (λ k. numbered_line name (first + k) (row counts k))

-- "`ended=` whole, cut or count"
abbrev pub ended_text : Ending → Bytes
ended_text Whole = ascii "ended=whole\n"
ended_text Cut = ascii "ended=cut\n"
ended_text Count = ascii "ended=count\n"

-- "`tables=` .., `refused=`, `rounds_1=` to `rounds_17=`, `level_0=` to `level_15=` .. and `ended=`"
unfoldable pub month_text : Month → Bytes
month_text m =
    line_of (ascii "tables=") m.figures.tables ++ line_of (ascii "refused=") m.figures.refused
    ++ numbered_lines (ascii "rounds_") 1 m.figures.rounds ++ numbered_lines (ascii "level_") 0 m.figures.levels
    ++ ended_text m.ending

-- ---- the whole input

-- "A bad profile gives only `refusal=` and `place=`, as in `settle`": number 1, row 0. Else the month of the tables after it. The profile is one of
-- 13 bytes: one with a byte for bulbs is bad here
unfoldable pub text_of : Bytes → Month → Bytes
text_of p m = cond (eqb (length p) 13 && good_profile p) (month_text m) (refusal_text 1 0)

-- "reads a 13-byte profile, then tables"
abbrev pub profile_of : Bytes → Bytes
profile_of input = take 13 input

abbrev pub after_profile : Bytes → Bytes
after_profile input = drop 13 input

-- what the program is to write for its whole input
unfoldable pub output_of : Bytes → Bytes
output_of input = text_of (profile_of input) (month_of (profile_of input) (after_profile input))
