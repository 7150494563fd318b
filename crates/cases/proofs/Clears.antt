-- Document 02, Change 7, computed: which rows are kept, in which pass each of the others went, and which refusal goes before which.
-- Assumes nothing.
use mathlib.Core.List.{List, [], ◌∷◌, ◌++◌}
use Prim.Native.Nat.{ℕ, ◌*◌, ◌+◌}
use lib.ListN.{length}
use lib.Dec.{T}
use lib.IntN.{pos, negsuc}
use Rattle.columns.specs.Column.{Bytes, Column}
use Rattle.blocks.specs.Kind.{Solid, RedstoneWire, RedstoneTorch, Repeater, Comparator, Lever, Button, CopperBulb}
use Rattle.blocks.specs.Profile.{bench_profile}
use Rattle.traits.specs.Shapes.{BottomSlab, TopSlab, Glass}
use Rattle.refusals.specs.Check.{answer_of}
use Rattle.clearing.specs.Kept.{kept_rows, kept_table, pass_column}
use Rattle.clear.specs.Clear.{check_clear}
use Rattle.cases.proofs.Computing.{computing}
use Rattle.cases.proofs.Build.{block, level, support, shape}
use Rattle.cases.proofs.Cases.{Case, passes}

-- what is answered under a profile, of an output of so many bytes and a column of so many entries
answered : Bytes → Bytes → ℕ → ℕ → ℕ
unfolding computing
answered p t bytes entries = answer_of (check_clear p t bytes entries) (length (kept_rows p t))

-- the pass in which each row went
went : Bytes → Column
unfolding computing
went t = pass_column bench_profile t

-- those, and the rows that are kept
cleared : Bytes → Column
unfolding computing went
cleared t = went t ++ kept_table bench_profile t

-- the answer of refusal n at row i
refused : ℕ → ℕ → ℕ
refused n i = n * 65536 + i

-- the block on the one below it, on the one before it along x, or on the one after it
abbrev on_below : Bytes → Bytes
on_below r = support (pos 0) (negsuc 0) (pos 0) r

abbrev on_before : Bytes → Bytes
on_before r = support (negsuc 0) (pos 0) (pos 0) r

abbrev on_after : Bytes → Bytes
on_after r = support (pos 1) (pos 0) (pos 0) r

abbrev on_itself : Bytes → Bytes
on_itself r = support (pos 0) (pos 0) (pos 0) r

-- dust of the shape of glass, which supports components
abbrev firm : ℕ → Bytes
firm x = shape Glass (block RedstoneWire x 0 0)

-- dust on a Solid
floor : Bytes
floor = block Solid 0 0 0 ++ on_below (block RedstoneWire 0 1 0)

-- rows that are not in order
misplaced : Bytes
misplaced = block Solid 1 0 0 ++ block Solid 0 0 0

cases : List Case
unfolding answered went cleared refused floor misplaced
cases =
    -- no rows; none that needs support; all on their floor
    record { given = cleared [] ++ cleared (block Solid 0 0 0 ++ block Button 1 0 0) ++ cleared floor; wanted = (0 ∷ 0 ∷ block Solid 0 0 0 ++ block Button 1 0 0) ++ 0 ∷ 0 ∷ floor }
    -- no floor: each kind that needs one goes in pass 1, and the Solid between them is kept
    ∷ record {
      given = cleared (block RedstoneWire 0 0 0 ++ block RedstoneTorch 1 0 0 ++ block Solid 2 0 0 ++ block Repeater 3 0 0 ++ block Comparator 4 0 0 ++ block Lever 5 0 0);
      wanted = 1 ∷ 1 ∷ 0 ∷ 1 ∷ 1 ∷ 1 ∷ block Solid 2 0 0;
    }
    -- a block that does not support components: a bottom slab; and a top slab, which does
    ∷ record {
      given = went (shape BottomSlab (block Solid 0 0 0) ++ on_below (block RedstoneWire 0 1 0)) ++ went (shape TopSlab (block Solid 0 0 0) ++ on_below (block RedstoneWire 0 1 0));
      wanted = 0 ∷ 1 ∷ 0 ∷ 0 ∷ [];
    }
    -- one row a pass, whichever comes first: what goes in a pass is a support still in that pass
    ∷ record { given = cleared (firm 0 ++ on_before (firm 1) ++ on_before (firm 2)) ++ cleared (on_after (firm 0) ++ on_after (firm 1) ++ firm 2); wanted = 1 ∷ 2 ∷ 3 ∷ 3 ∷ 2 ∷ 1 ∷ [] }
    -- two on one support go in one pass
    ∷ record { given = went (on_after (block Lever 0 0 0) ++ firm 1 ++ on_before (block Lever 2 0 0)); wanted = 2 ∷ 1 ∷ 2 ∷ [] }
    -- "two rows that hold each other up are kept", and what stands on them; three in a ring; one that holds itself up
    ∷ record {
      given =
          went (on_after (firm 0) ++ on_before (firm 1) ++ on_before (block Lever 2 0 0))
          ++ went (support (pos 0) (pos 0) (pos 1) (firm 0) ++ support (pos 1) (pos 0) (negsuc 0) (shape Glass (block RedstoneWire 0 0 1)) ++ on_before (firm 1))
          ++ went (on_itself (firm 0));
      wanted = 0 ∷ 0 ∷ 0 ∷ 0 ∷ 0 ∷ 0 ∷ 0 ∷ [];
    }
    -- a row that is its own support, and does not support components, goes
    ∷ record { given = went (on_itself (block RedstoneWire 0 0 0)); wanted = 1 ∷ [] }
    -- kept rows move up, over those that went
    ∷ record {
      given = cleared (block RedstoneWire 0 0 0 ++ block Solid 1 0 0 ++ on_below (block Lever 1 1 0) ++ on_below (block Lever 2 1 0) ++ block Solid 3 0 0);
      wanted = 1 ∷ 0 ∷ 0 ∷ 1 ∷ 0 ∷ block Solid 1 0 0 ++ on_below (block Lever 1 1 0) ++ block Solid 3 0 0;
    }
    -- 7: a byte or a row too few or too many of the output, an entry too few or too many of the column, both; and none of these
    ∷ record {
      given =
          answered bench_profile floor 63 2 ∷ answered bench_profile floor 32 2 ∷ answered bench_profile floor 96 2 ∷ answered bench_profile floor 64 1 ∷ answered bench_profile floor 64 3
          ∷ answered bench_profile floor 0 0 ∷ answered bench_profile [] 32 0 ∷ answered bench_profile [] 0 1 ∷ answered bench_profile floor 64 2 ∷ answered bench_profile [] 0 0 ∷ [];
      wanted = refused 7 0 ∷ refused 7 0 ∷ refused 7 0 ∷ refused 7 0 ∷ refused 7 0 ∷ refused 7 0 ∷ refused 7 0 ∷ refused 7 0 ∷ 2 ∷ 0 ∷ [];
    }
    -- 1, 2, 4, 5 and 10 go before it, and so does 3, of which no table is small enough to be computed here
    ∷ record {
      given =
          answered [] floor 0 0 ∷ answered bench_profile (0 ∷ []) 0 0 ∷ answered bench_profile (floor ++ block 14 1 0 0) 0 0 ∷ answered bench_profile (block CopperBulb 0 0 0) 0 0
          ∷ answered bench_profile misplaced 0 0 ∷ answered bench_profile (floor ++ level 16 (block Comparator 1 0 0)) 0 0 ∷ [];
      wanted = refused 1 0 ∷ refused 2 0 ∷ refused 4 2 ∷ refused 4 0 ∷ refused 5 1 ∷ refused 10 2 ∷ [];
    }
    ∷ []

claim : T (passes cases)
unfolding passes cases
claim = tt
