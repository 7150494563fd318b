-- Document 02, Change 6, computed: what two tables make, and which of refusals 2 to 12 goes before which.
-- Assumes nothing.
use mathlib.Core.List.{List, [], ◌∷◌, ◌++◌}
use Prim.Native.Nat.{ℕ, ◌+◌, ◌*◌}
use lib.ListN.{length, set}
use lib.Dec.{T}
use lib.IntN.{ℤ, pos, negsuc}
use Rattle.columns.specs.Column.{Bytes, Column}
use Rattle.blocks.specs.Kind.{Solid, RedstoneWire, Comparator, Lever, RedstoneLamp, CopperBulb}
use Rattle.places.specs.declared.Pos.{Pos}
use Rattle.places.specs.Places.{cell}
use Rattle.refusals.specs.Check.{answer_of}
use Rattle.merge.specs.Merge.{merged_rows, merged_table, check_merge}
use Rattle.cases.proofs.Computing.{computing}
use Rattle.cases.proofs.Build.{block, powered, level}
use Rattle.cases.proofs.Cases.{Case, passes}

-- what is answered, of an output of n bytes
answered : ℕ → Bytes → Bytes → Pos → ℕ
unfolding computing
answered n a b by = answer_of (check_merge a b by n) (length (merged_rows a b by))

-- and of 32,768
merged : Bytes → Bytes → Pos → ℕ
unfolding answered
merged a b by = answered 32768 a b by

-- that, and the table that is made
made : Bytes → Bytes → Pos → Column
unfolding computing merged
made a b by = merged a b by ∷ merged_table a b by

-- the answer of refusal n at row i
refused : ℕ → ℕ → ℕ
refused n i = n * 65536 + i

abbrev still : Pos
still = cell (pos 0) (pos 0) (pos 0)

abbrev along_x : ℤ → Pos
along_x d = cell d (pos 0) (pos 0)

abbrev along_y : ℤ → Pos
along_y d = cell (pos 0) d (pos 0)

abbrev along_z : ℤ → Pos
along_z d = cell (pos 0) (pos 0) d

-- the row with -1 in the four bytes from k on
abbrev below_zero : ℕ → Bytes → Bytes
below_zero k r = set (set (set (set r k 255) (k + 1) 255) (k + 2) 255) (k + 3) 255

-- a Solid, and dust on it
stand : Bytes
stand = block Solid 1 0 1 ++ block RedstoneWire 1 1 1

solid : Bytes
solid = block Solid 0 0 0

-- a Solid at x 1,000,001, out of range
far : Bytes
far = set (set (set solid 0 65) 1 66) 2 15

overdriven : Bytes
overdriven = level 16 (block Comparator 0 0 0)

-- rows that are not in order
misplaced : Bytes
misplaced = block Solid 1 0 0 ++ solid

cases : List Case
unfolding answered merged made refused stand solid far overdriven misplaced
cases =
    -- apart: the first and the moved second, in order, whichever comes first
    record { given = made stand stand (along_x (pos 1)); wanted = 4 ∷ stand ++ block Solid 2 0 1 ++ block RedstoneWire 2 1 1 }
    ∷ record { given = made stand stand (along_x (negsuc 0)); wanted = 4 ∷ block Solid 0 0 1 ++ block RedstoneWire 0 1 1 ++ stand }
    -- a row between the other's
    ∷ record { given = made stand (block RedstoneLamp 0 0 0) (cell (pos 1) (pos 1) (pos 0)); wanted = 3 ∷ block Solid 1 0 1 ++ block RedstoneLamp 1 1 0 ++ block RedstoneWire 1 1 1 }
    -- below 0, along each axis
    ∷ record { given = made [] solid (along_x (negsuc 0)); wanted = 1 ∷ below_zero 0 solid }
    ∷ record { given = made [] solid (along_y (negsuc 0)); wanted = 1 ∷ below_zero 4 solid }
    ∷ record { given = made [] solid (along_z (negsuc 0)); wanted = 1 ∷ below_zero 8 solid }
    -- "is written once": all of it, and a part
    ∷ record { given = made stand stand still; wanted = 2 ∷ stand }
    ∷ record { given = made stand (solid ++ block Lever 1 0 0) (cell (pos 1) (pos 0) (pos 1)); wanted = 3 ∷ stand ++ block Lever 2 0 1 }
    -- no rows: of the second, of the first, of both
    ∷ record { given = made stand [] (along_x (pos 5)) ++ made [] stand still ++ made [] [] still; wanted = (2 ∷ stand) ++ (2 ∷ stand) ++ 0 ∷ [] }
    -- 12: the kind differs; a field does; at the last row alone; but not at another position
    ∷ record {
      given =
          merged stand (block RedstoneLamp 1 0 1) still ∷ merged (powered (block Lever 0 0 0)) (block Lever 0 0 0) still ∷ merged stand (block Solid 1 0 1 ++ block RedstoneLamp 1 1 1) still
          ∷ merged stand (block RedstoneLamp 1 0 0) still ∷ [];
      wanted = refused 12 0 ∷ refused 12 0 ∷ refused 12 0 ∷ 3 ∷ [];
    }
    -- 11, the offset: at both ends and past them, on each axis, with no row to move
    ∷ record {
      given =
          merged stand [] (cell (pos 2000000) (negsuc 1999999) (pos 2000000)) ∷ merged stand [] (along_x (pos 2000001)) ∷ merged stand [] (along_y (negsuc 2000000))
          ∷ merged stand [] (along_z (pos 2000001)) ∷ [];
      wanted = 2 ∷ refused 11 0 ∷ refused 11 0 ∷ refused 11 0 ∷ [];
    }
    -- 11, a moved coordinate: at an end and past it, on each axis
    ∷ record {
      given =
          merged [] solid (cell (pos 1000000) (negsuc 999999) (pos 1000000)) ∷ merged [] solid (along_x (negsuc 1000000)) ∷ merged [] solid (along_y (pos 1000001))
          ∷ merged [] solid (along_z (negsuc 1000000)) ∷ merged [] (solid ++ stand) (along_x (pos 1000000)) ∷ [];
      wanted = 1 ∷ refused 11 0 ∷ refused 11 0 ∷ refused 11 0 ∷ refused 11 0 ∷ [];
    }
    -- "The first table's checks come before the second's, rows counted in the table at fault"
    ∷ record {
      given =
          merged (solid ++ block 14 1 0 0) (0 ∷ []) still ∷ merged (0 ∷ []) (block 14 1 0 0) still ∷ merged stand (solid ++ block 14 1 0 0) still
          ∷ merged overdriven misplaced still ∷ merged stand misplaced still ∷ merged stand overdriven still ∷ [];
      wanted = refused 4 1 ∷ refused 2 0 ∷ refused 4 1 ∷ refused 10 0 ∷ refused 5 1 ∷ refused 10 0 ∷ [];
    }
    -- a row out of range is 4, even where moving would mend it
    ∷ record { given = merged [] far (along_x (negsuc 0)) ∷ []; wanted = refused 4 0 ∷ [] }
    -- 7 after the tables and before 11, 11 before 12
    ∷ record {
      given =
          answered 32767 stand misplaced (along_x (pos 2000001)) ∷ answered 32767 stand stand (along_x (pos 2000001)) ∷ answered 32769 stand stand still
          ∷ merged (block Lever 1 0 0) (solid ++ block Solid 1 0 0) (along_y (negsuc 1000000)) ∷ merged stand (block RedstoneLamp 1 0 1) (along_x (pos 2000001)) ∷ [];
      wanted = refused 5 1 ∷ refused 7 0 ∷ refused 7 0 ∷ refused 11 0 ∷ refused 11 0 ∷ [];
    }
    -- "A bulb row counts as good here"; kind 14 does not
    ∷ record { given = merged (block CopperBulb 0 0 0) (block CopperBulb 0 0 0) (along_x (pos 1)) ∷ merged [] (block 14 0 0 0) still ∷ []; wanted = 2 ∷ refused 4 0 ∷ [] }
    ∷ []

claim : T (passes cases)
unfolding passes cases
claim = tt
