-- The tests of a merge in the two parts in which they are made. Nothing that the call promises rests on these: `in_parts` says that they are its tests.
-- Assumes nothing.
use Rattle.std.specs.Prelude.{not, List, ℕ, length, eqb, leb}
use Rattle.columns.specs.Column.{Bytes}
use Rattle.places.specs.declared.Pos.{Pos}
use Rattle.refusals.specs.Check.{Checked, accepted, refuse_unless, or_else, check_table}
use Rattle.moving.specs.Move.{on_ground}
use Rattle.unions.specs.Union.{union_rows, has_clash}

-- those of the tables as they are given, 7 and 11
unfoldable pub check_given : Bytes → Bytes → Pos → ℕ → Checked
check_given a b by bytes =
    or_else (check_table 14 a) (or_else (check_table 14 b) (refuse_unless 7 (eqb bytes 32768) (refuse_unless 11 (on_ground by b) accepted)))

-- 12 and 3, of the rows of both
unfoldable pub check_union : List Bytes → List Bytes → Checked
check_union first second =
    refuse_unless 12 (not (has_clash first second)) (refuse_unless 3 (leb (length (union_rows first second)) 1024) accepted)
