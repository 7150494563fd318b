-- The lines that the program `settle` writes: "one to a line".
-- Assumes nothing.
use Rattle.std.specs.Prelude.{◌++◌, ℕ}
use Rattle.columns.specs.Column.{Bytes, Column, row, concat_rows}
use Rattle.columns.specs.Ascii.{ascii}
use Rattle.places.specs.declared.Pos.{Pos}
use Rattle.world.specs.Rows.{rows, pos_of}
use Rattle.text.specs.Text.{decimal_of, signed_text, line_of}

-- "per row `row=` with x, y, z, signal, weak, strong": up to the position, and from there on
abbrev pub place_text : Pos → Bytes
place_text q =
    ascii "row=" ++ signed_text q.x ++ ascii "," ++ signed_text q.y ++ ascii "," ++ signed_text q.z ++ ascii ","

abbrev pub levels_text : ℕ → ℕ → ℕ → Bytes
levels_text signal weak strong =
    decimal_of signal ++ ascii "," ++ decimal_of weak ++ ascii "," ++ decimal_of strong ++ ascii "\n"

unfoldable pub row_text : Pos → ℕ → ℕ → ℕ → Bytes
row_text q signal weak strong = place_text q ++ levels_text signal weak strong

-- the line of row i of the table t with its three columns
abbrev pub row_of : Bytes → Column → Column → Column → ℕ → Bytes
row_of t signal weak strong i = row_text (pos_of t i) (row signal i) (row weak i) (row strong i)

-- "It writes `blocks=`, `rounds=`, then per row .."
unfoldable pub settled_text : Bytes → ℕ → Column → Column → Column → Bytes
settled_text t rounds signal weak strong =
    line_of (ascii "blocks=") (rows t) ++ line_of (ascii "rounds=") rounds ++ concat_rows (rows t) (row_of t signal weak strong)

-- "or `refusal=` number and `place=` row"
unfoldable pub refusal_text : ℕ → ℕ → Bytes
refusal_text n i = line_of (ascii "refusal=") n ++ line_of (ascii "place=") i
