-- Words as bytes.
-- Assumes nothing.
use Rattle.std.specs.Prelude.{[], ◌∷◌}
use Prim.Native.Char.{code}
use Prim.Native.String.{String, [] as none, ◌∷◌ as ◌then◌}
use Rattle.columns.specs.Column.{Bytes}

-- the bytes of a text in ASCII
abbrev pub ascii : String → Bytes
ascii none = []
ascii (c then s) = code c ∷ ascii s
