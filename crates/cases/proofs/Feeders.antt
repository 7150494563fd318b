-- Document 02, Change 9, computed: which dust feeds each row, what a call that replaces a row leaves of table and list, and which refusal goes before
-- which.
-- Assumes nothing.
use mathlib.Core.Path.{◌≡◌, refl}
use mathlib.Core.List.{List, [], ◌∷◌, ◌++◌}
use Prim.Native.Nat.{ℕ, ◌*◌, ◌+◌, ◌<◌}
use native.Mathlib.Omega.{arith}
use lib.ListN.{length, set, take, replicate}
use lib.Dec.{T}
use Rattle.columns.specs.Column.{Bytes, Column}
use Rattle.blocks.specs.Kind.{Solid, RedstoneWire, Comparator, Lever, CopperBulb}
use Rattle.blocks.specs.Profile.{bench_profile}
use Rattle.blocks.proofs.Bulbs.{with_bulb}
use Rattle.world.specs.Rows.{rows}
use Rattle.traits.specs.Shapes.{Plain, BottomSlab, TopSlab, DoubleSlab}
use Rattle.traits.specs.Traits.{ArmNone, ArmUp}
use Rattle.refusals.specs.Check.{refused as refusal, answer_of, written}
use Rattle.refusals.proofs.Tells.{told_refused}
use Rattle.feeding.specs.Feeders.{feeder_entries, feeder_list}
use Rattle.feeding.specs.Replaced.{replaced, updated_list}
use Rattle.feeders.specs.Feeds.{check_feeders, Feeds}
use Rattle.feeders.proofs.Answers.{feeders_tells}
use Rattle.replace.specs.Replace.{check_replace, Replaces}
use Rattle.replace.proofs.Answers.{replace_tells, as_built}
use Rattle.cases.proofs.Computing.{computing}
use Rattle.cases.proofs.Build.{block, level, shape}
use Rattle.cases.proofs.Cases.{Case, passes}

-- the list of a table, and the entries of row i of it alone
list_of : Bytes → Bytes → Column
unfolding computing
list_of p t = feeder_list p t

entries_at : Bytes → Bytes → ℕ → Column
unfolding computing
entries_at p t i = feeder_entries p t i

-- a call that replaces row n: the answer, then the table and the list that it leaves
replacing : Bytes → Bytes → ℕ → Bytes → List ℕ → Column
unfolding computing
replacing p t n new list =
    let c = check_replace p t n new (length list) in
    let u = replaced t n new in
    answer_of c (rows t) ∷ written c t u ++ written c list (updated_list p u n list)

-- what such a call is answered, of a list of so many entries
answered : Bytes → Bytes → ℕ → Bytes → ℕ → ℕ
unfolding computing
answered p t n new count = answer_of (check_replace p t n new count) (rows t)

-- and a call that builds the list
answered_building : Bytes → Bytes → ℕ → ℕ
unfolding computing
answered_building p t count = answer_of (check_feeders p t count) (rows t)

-- the answer of refusal n at row i
refused : ℕ → ℕ → ℕ
refused n i = n * 65536 + i

-- ---- the twelve entries of a row: no feeder, one, two; and some that are no row's

none : Column
none = replicate 12 65535

one : ℕ → Column
one i = i ∷ replicate 11 65535

two : ℕ → ℕ → Column
two i j = i ∷ j ∷ replicate 10 65535

sevens : Column
sevens = replicate 12 7

-- ---- test 6's table: dust, a Solid of the shape, and dust on it

middle : ℕ → Bytes
middle s = shape s (block Solid 1 1 0)

past : ℕ → Bytes
unfolding middle
past s = block RedstoneWire 0 1 0 ++ middle s ++ block RedstoneWire 1 2 0

-- ---- three Solids in a row, with dust on the first and the last, and a row on the second

line : Bytes → Bytes
line r =
    block Solid 0 0 0 ++ block RedstoneWire 0 1 0 ++ block Solid 1 0 0 ++ r ++ block Solid 2 0 0 ++ block RedstoneWire 2 1 0

dust : Bytes
dust = block RedstoneWire 1 1 0

-- the four arms of a dust stored as a
arms : ℕ → Bytes → Bytes
arms a r = set (set (set (set (set r 23 1) 24 a) 25 a) 26 a) 27 a

-- ---- a dust with twelve around it

under : ℕ → Bytes
under s = shape s (block Solid 1 0 1)

unchanged : Bytes → Bytes
unchanged r = r

-- dust with arms stored as Up, on a Solid of the shape; on each of its four sides a dust one below, changed by `low`, a dust level with it, changed by
-- `flat`, and a dust one above
around : ℕ → (Bytes → Bytes) → (Bytes → Bytes) → Bytes
unfolding arms under
around s low flat =
    let wire = block RedstoneWire in
    low (wire 0 0 1) ++ flat (wire 0 1 1) ++ wire 0 2 1 ++ low (wire 1 0 0) ++ under s ++ low (wire 1 0 2) ++ flat (wire 1 1 0) ++ arms ArmUp (wire 1 1 1)
    ++ flat (wire 1 1 2) ++ wire 1 2 0 ++ wire 1 2 2 ++ low (wire 2 0 1) ++ flat (wire 2 1 1) ++ wire 2 2 1

-- its list, by the entries of the dusts below and of the dust in the middle, row 7, which alone feeds those level with it and those above; row 4 is the
-- Solid
list_around : Column → Column → Column
unfolding none one
list_around low centre =
    low ++ one 7 ++ one 7 ++ low ++ none ++ low ++ one 7 ++ centre ++ one 7 ++ one 7 ++ one 7 ++ low ++ one 7 ++ one 7

-- the twelve, and those of them that are not below
twelve : Column
twelve = 0 ∷ 1 ∷ 2 ∷ 3 ∷ 5 ∷ 6 ∷ 8 ∷ 9 ∷ 10 ∷ 11 ∷ 12 ∷ 13 ∷ []

eight : Column
eight = 1 ∷ 2 ∷ 6 ∷ 8 ∷ 9 ∷ 10 ∷ 12 ∷ 13 ∷ replicate 4 65535

-- the bench profile, but that dust supports components and drives dust
firm_dust : Bytes
firm_dust = set bench_profile RedstoneWire 17

-- ---- dust near and far

-- row 7, of the kind, at (3, 3, 3); a Solid under it and one beside it; dust beside it, row 13; dust two and three cells away to both sides along each
-- axis; dust two cells away along all three, row 15; and dust two cells away along x and y and three along z, row 16
spread : ℕ → Bytes
spread kind =
    let wire = block RedstoneWire in
    wire 0 3 3 ++ wire 1 3 3 ++ wire 3 0 3 ++ wire 3 1 3 ++ block Solid 3 2 3 ++ wire 3 3 0 ++ wire 3 3 1 ++ block kind 3 3 3 ++ block Solid 3 3 4
    ++ wire 3 3 5 ++ wire 3 3 6 ++ wire 3 5 3 ++ wire 3 6 3 ++ wire 4 3 3 ++ wire 5 3 3 ++ wire 5 5 5 ++ wire 5 5 6 ++ wire 6 3 3

-- its list after row 7 is replaced by dust, where sevens were handed in
spread_list : Column
unfolding none one two sevens
spread_list =
    sevens ++ one 0 ++ sevens ++ none ++ sevens ++ sevens ++ one 5 ++ one 13 ++ sevens ++ one 10 ++ sevens ++ none ++ sevens ++ two 7 14 ++ two 13 17 ++ one 16
    ++ sevens ++ sevens

-- ---- rows and tables of refused calls

-- dust on a Solid
floor : Bytes
floor = block Solid 0 0 0 ++ block RedstoneWire 0 1 0

-- row n of it replaced, with a list of the right length
answered_floor : ℕ → Bytes → ℕ
unfolding answered floor
answered_floor n new = answered bench_profile floor n new 24

-- where the dust is: a Solid, a row of no kind, a bulb, and a comparator at level n
solid : Bytes
solid = block Solid 0 1 0

bad : Bytes
bad = block 14 0 1 0

bulb : Bytes
bulb = block CopperBulb 0 1 0

comparing : ℕ → Bytes
comparing n = level n (block Comparator 0 1 0)

-- rows that are not in order
misplaced : Bytes
misplaced = block Solid 1 0 0 ++ block Solid 0 0 0

cases : List Case
unfolding list_of entries_at replacing answered answered_building refused none one two sevens middle past line dust arms under unchanged around list_around twelve eight firm_dust spread spread_list floor answered_floor solid bad bulb comparing misplaced
cases =
    -- test 6: with a top slab "Rise upward, none downward", so that the first dust feeds the last, and the last does not feed the first: for a fall "the
    -- block under the source drives dust", and a top slab does not. "Plain Solid instead: both"
    record { given = list_of bench_profile (past TopSlab); wanted = none ++ none ++ one 0 }
    ∷ record { given = list_of bench_profile (past Plain); wanted = one 2 ++ none ++ one 0 }
    -- the slab replaced by a plain Solid, and back
    ∷ record { given = replacing bench_profile (past TopSlab) 1 (middle Plain) (list_of bench_profile (past TopSlab)); wanted = 3 ∷ past Plain ++ one 2 ++ none ++ one 0 }
    ∷ record { given = replacing bench_profile (past Plain) 1 (middle TopSlab) (list_of bench_profile (past Plain)); wanted = 3 ∷ past TopSlab ++ none ++ none ++ one 0 }
    -- the first row replaced, and the last
    ∷ record {
      given = replacing bench_profile (past Plain) 0 (block Lever 0 1 0) (list_of bench_profile (past Plain));
      wanted = 3 ∷ block Lever 0 1 0 ++ middle Plain ++ block RedstoneWire 1 2 0 ++ none ++ none ++ none;
    }
    ∷ record {
      given = replacing bench_profile (past Plain) 2 (block Lever 1 2 0) (list_of bench_profile (past Plain));
      wanted = 3 ∷ block RedstoneWire 0 1 0 ++ middle Plain ++ block Lever 1 2 0 ++ none ++ none ++ none;
    }
    -- dust along a line, with no stored arms: those at the ends feed the one between them, which feeds both, and nothing feeds a Solid
    ∷ record { given = list_of bench_profile (line dust); wanted = none ++ one 3 ++ none ++ two 1 5 ++ none ++ one 3 }
    -- the dust between replaced by a Solid, and back; and by dust whose arms are stored as None
    ∷ record {
      given = replacing bench_profile (line dust) 3 (block Solid 1 1 0) (list_of bench_profile (line dust));
      wanted = 6 ∷ line (block Solid 1 1 0) ++ none ++ none ++ none ++ none ++ none ++ none;
    }
    ∷ record {
      given = replacing bench_profile (line (block Solid 1 1 0)) 3 dust (list_of bench_profile (line (block Solid 1 1 0)));
      wanted = 6 ∷ line dust ++ none ++ one 3 ++ none ++ two 1 5 ++ none ++ one 3;
    }
    ∷ record {
      given = replacing bench_profile (line dust) 3 (arms ArmNone dust) (list_of bench_profile (line dust));
      wanted = 6 ∷ line (arms ArmNone dust) ++ none ++ none ++ none ++ none ++ none ++ none;
    }
    -- twelve feeders, and no 65,535: where dust drives dust; and under the bench profile, where the dusts level with it are double slabs, which drive dust
    -- and block a rise, and those below have stored arms. Under it with neither changed nothing falls from above
    ∷ record { given = list_of firm_dust (around Plain unchanged unchanged); wanted = list_around (one 7) twelve }
    ∷ record {
      given = entries_at bench_profile (around Plain (arms ArmUp) (shape DoubleSlab)) 7 ++ entries_at bench_profile (around Plain unchanged unchanged) 7;
      wanted = twelve ++ 0 ∷ 1 ∷ 3 ∷ 5 ∷ 6 ∷ 8 ∷ 11 ∷ 12 ∷ replicate 4 65535;
    }
    -- the Solid replaced by a bottom slab, past which none rises and through which none falls, and back
    ∷ record {
      given = replacing firm_dust (around Plain unchanged unchanged) 4 (under BottomSlab) (list_around (one 7) twelve);
      wanted = 14 ∷ around BottomSlab unchanged unchanged ++ list_around none eight;
    }
    ∷ record {
      given = replacing firm_dust (around BottomSlab unchanged unchanged) 4 (under Plain) (list_around none eight);
      wanted = 14 ∷ around Plain unchanged unchanged ++ list_around (one 7) twelve;
    }
    -- "that row's entries and those of dust at most two cells away on every axis are written afresh, all others are left as handed in"
    ∷ record { given = replacing bench_profile (spread Solid) 7 (block RedstoneWire 3 3 3) (replicate 216 7); wanted = 18 ∷ spread RedstoneWire ++ spread_list }
    -- that row's also where it is not dust
    ∷ record { given = replacing bench_profile floor 1 solid (sevens ++ sevens); wanted = 2 ∷ block Solid 0 0 0 ++ solid ++ sevens ++ none }
    -- 4: no kind, Air, a last byte that is not 0; 64 bytes of which the first 32 are good, 33, 31, and none. A good row is answered the number of rows
    ∷ record {
      given =
          answered_floor 1 bad ∷ answered_floor 1 (block 0 0 1 0) ∷ answered_floor 1 (set solid 31 1) ∷ answered_floor 1 (solid ++ solid) ∷ answered_floor 1 (solid ++ 0 ∷ [])
          ∷ answered_floor 1 (take 31 solid) ∷ answered_floor 1 [] ∷ answered_floor 1 solid ∷ [];
      wanted = refused 4 1 ∷ refused 4 1 ∷ refused 4 1 ∷ refused 4 1 ∷ refused 4 1 ∷ refused 4 1 ∷ refused 4 1 ∷ 2 ∷ [];
    }
    -- "with 13 a bulb row is number 4", and with 14 it is good
    ∷ record { given = answered_floor 1 bulb ∷ answered (with_bulb bench_profile 7) floor 1 bulb 24 ∷ []; wanted = refused 4 1 ∷ 2 ∷ [] }
    -- 5: a position that no row has, or that another row has; no such row, by the first such number, at which a position would be read as (0, 0, 0), and by
    -- the last of 16 bits; and no rows
    ∷ record {
      given =
          answered_floor 1 (block Solid 0 2 0) ∷ answered_floor 0 solid ∷ answered_floor 2 (block Solid 0 0 0) ∷ answered_floor 65535 (block Solid 0 0 0) ∷ answered_floor 65535 solid
          ∷ answered bench_profile [] 0 (block Solid 0 0 0) 0 ∷ [];
      wanted = refused 5 1 ∷ refused 5 0 ∷ refused 5 2 ∷ 393215 ∷ 393215 ∷ refused 5 0 ∷ [];
    }
    -- 10: a comparator at 16 and at 255, and at row 0; but not at 15, nor a lever at 16
    ∷ record {
      given =
          answered_floor 1 (comparing 16) ∷ answered_floor 1 (comparing 255) ∷ answered_floor 0 (level 16 (block Comparator 0 0 0)) ∷ answered_floor 1 (comparing 15)
          ∷ answered_floor 1 (level 16 (block Lever 0 1 0)) ∷ [];
      wanted = refused 10 1 ∷ refused 10 1 ∷ refused 10 0 ∷ 2 ∷ 2 ∷ [];
    }
    -- 7, row 0: an entry too few or too many, those of a row too few, and none
    ∷ record {
      given = answered bench_profile floor 1 solid 23 ∷ answered bench_profile floor 1 solid 25 ∷ answered bench_profile floor 1 solid 12 ∷ answered bench_profile floor 1 solid 0 ∷ [];
      wanted = 458752 ∷ 458752 ∷ 458752 ∷ 458752 ∷ [];
    }
    -- 4 before 5, 10 and 7; 5 before 10 and 7; 10 before 7
    ∷ record {
      given =
          answered_floor 2 bad ∷ answered_floor 65535 bad ∷ answered_floor 1 (set (comparing 16) 31 1) ∷ answered bench_profile floor 1 bad 23 ∷ answered_floor 1 (level 16 (block Comparator 0 2 0))
          ∷ answered_floor 2 (comparing 16) ∷ answered bench_profile floor 2 solid 23 ∷ answered bench_profile floor 1 (comparing 16) 23 ∷ [];
      wanted = refused 4 2 ∷ refused 4 65535 ∷ refused 4 1 ∷ refused 4 1 ∷ refused 5 1 ∷ refused 5 2 ∷ refused 5 2 ∷ refused 10 1 ∷ [];
    }
    -- what falls on the profile or the table goes before these, at its own row: 1, 2, 4, 5 and 10, also where that row is the one to be replaced; and so
    -- does 3, of which no table is small enough to be computed here
    ∷ record {
      given =
          answered [] floor 0 bad 0 ∷ answered bench_profile (0 ∷ []) 1 bad 0 ∷ answered bench_profile (floor ++ block 14 1 0 0) 0 bad 0 ∷ answered bench_profile misplaced 0 bad 0
          ∷ answered bench_profile (floor ++ level 16 (block Comparator 1 0 0)) 0 bad 0 ∷ answered bench_profile (block Solid 0 0 0 ++ comparing 16) 1 solid 24 ∷ [];
      wanted = refused 1 0 ∷ refused 2 0 ∷ refused 4 2 ∷ refused 5 1 ∷ refused 10 2 ∷ refused 10 1 ∷ [];
    }
    -- a refused call leaves table and list
    ∷ record {
      given = replacing bench_profile floor 1 (comparing 16) (sevens ++ sevens) ++ replacing bench_profile floor 1 solid (replicate 23 7);
      wanted = (refused 10 1 ∷ floor ++ sevens ++ sevens) ++ 458752 ∷ floor ++ replicate 23 7;
    }
    -- the list built, 7: an entry too few or too many, none, and one where there is no row; and none of these, answered the number of rows
    ∷ record {
      given =
          answered_building bench_profile floor 23 ∷ answered_building bench_profile floor 25 ∷ answered_building bench_profile floor 0 ∷ answered_building bench_profile [] 1
          ∷ answered_building bench_profile floor 24 ∷ answered_building bench_profile [] 0 ∷ [];
      wanted = 458752 ∷ 458752 ∷ 458752 ∷ 458752 ∷ 2 ∷ 0 ∷ [];
    }
    -- 1, 2, 4, 5 and 10 before it
    ∷ record {
      given =
          answered_building [] floor 0 ∷ answered_building bench_profile (0 ∷ []) 1 ∷ answered_building bench_profile (floor ++ block 14 1 0 0) 0 ∷ answered_building bench_profile bulb 0
          ∷ answered_building bench_profile misplaced 0 ∷ answered_building bench_profile (floor ++ level 16 (block Comparator 1 0 0)) 0 ∷ [];
      wanted = refused 1 0 ∷ refused 2 0 ∷ refused 4 2 ∷ refused 4 0 ∷ refused 5 1 ∷ refused 10 2 ∷ [];
    }
    ∷ []

claim : T (passes cases)
unfolding passes cases
claim = tt

-- ---- the calls: the list built, and the slab of test 6 replaced

built : Feeds bench_profile (past TopSlab) (replicate 36 7) (none ++ none ++ one 0) 3
unfolding computing past middle none one
built = record { answer = refl; entries = refl }

changed : Replaces bench_profile (past TopSlab) (past Plain) 1 (middle Plain) (none ++ none ++ one 0) (one 2 ++ none ++ one 0) 3
unfolding computing past middle none one
changed = record { answer = refl; bytes = refl; entries = refl }

-- any call that builds the list of the table then, and is not refused, writes these entries
built_again : {old list : List ℕ} {r : ℕ} → Feeds bench_profile (past Plain) old list r → r < 65536 → one 2 ++ none ++ one 0 ≡ list
built_again again done = as_built bench_profile (past TopSlab) 1 (middle Plain) built (omega arith) changed again done

-- lists that have no room: number 7
no_room : Feeds bench_profile floor [] [] 458752
unfolding computing floor
no_room = record { answer = refl; entries = refl }

building_refused : check_feeders bench_profile floor 0 ≡ refusal 7 0
building_refused = told_refused (feeders_tells bench_profile floor [] no_room) (omega arith)

no_room_to_replace : Replaces bench_profile floor floor 1 solid [] [] 458752
unfolding computing floor solid
no_room_to_replace = record { answer = refl; bytes = refl; entries = refl }

replacing_refused : check_replace bench_profile floor 1 solid 0 ≡ refusal 7 0
replacing_refused = told_refused (replace_tells bench_profile floor 1 solid [] no_room_to_replace (omega arith)) (omega arith)
