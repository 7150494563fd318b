-- Document 02, Change 5, computed: which rows, device columns and states are overdriven, and which refusal goes before which.
-- Assumes nothing.
use mathlib.Core.List.{List, [], ◌∷◌, ◌++◌}
use Prim.Native.Nat.{ℕ, ◌+◌, ◌*◌}
use lib.ListN.{set, replicate}
use lib.Dec.{T}
use lib.IntN.{pos, negsuc}
use Rattle.columns.specs.Column.{Bytes, Column, tabulate}
use Rattle.columns.specs.Ascii.{ascii}
use Rattle.blocks.specs.Kind.{Solid, RedstoneWire, RedstoneTorch, Repeater, Comparator, Lever, CopperBulb}
use Rattle.blocks.specs.Profile.{bench_profile}
use Rattle.places.specs.Places.{East}
use Rattle.world.specs.Rows.{rows}
use Rattle.refusals.specs.Check.{answer_of, check_input}
use Rattle.supports.specs.Supports.{check_supports}
use Rattle.emitted.specs.Emitted.{check_devices}
use Rattle.electrical.specs.Answer.{settled, check_settle}
use Rattle.updates.specs.State.{check_state, fresh_devices}
use Rattle.updates.specs.Calls.{check_fresh, check_step, check_tick}
use Rattle.report.specs.Text.{settle_text}
use Rattle.cases.proofs.Computing.{computing}
use Rattle.cases.proofs.Build.{block, facing, powered, level, support}
use Rattle.cases.proofs.Cases.{Case, passes}

-- ---- rows

-- what a table is answered: 0, or the refusal
answered : Bytes → ℕ
unfolding computing
answered t = answer_of (check_input bench_profile t) 0

-- a row of the kind, whose given level is n
given : ℕ → ℕ → Bytes
given kind n = level n (block kind 0 0 0)

-- three comparators with these levels
three : ℕ → ℕ → ℕ → Bytes
three a b c = level a (block Comparator 0 0 0) ++ level b (block Comparator 1 0 0) ++ level c (block Comparator 2 0 0)

-- the answer of refusal n at row i
refused : ℕ → ℕ → ℕ
refused n i = n * 65536 + i

-- signal, weak and strong of every row, with the fresh devices
columns : Bytes → Column
unfolding computing
columns t = let s = settled bench_profile t (fresh_devices t) in s.signal ++ s.weak ++ s.strong

-- a lever that is on, on a Solid: its given level is n
pulled : ℕ → Bytes
pulled n = block Solid 0 0 0 ++ powered (level n (support (pos 0) (negsuc 0) (pos 0) (block Lever 0 1 0)))

-- test 5's table, with the comparator at n
comparing : ℕ → Bytes
comparing n = facing East (level n (block Comparator 0 1 0)) ++ block RedstoneWire 1 1 0

text : Bytes → Column
unfolding computing
text t = settle_text (bench_profile ++ t)

-- ---- columns and states, of a torch, a comparator, a Solid, a comparator and a repeater

mixed : Bytes
mixed =
    block RedstoneTorch 0 0 0 ++ block Comparator 1 0 0 ++ block Solid 2 0 0 ++ block Comparator 3 0 0 ++ block Repeater 4 0 0

devices_answered : Column → ℕ
unfolding computing mixed
devices_answered d = answer_of (check_devices mixed d) 0

-- sixteen bytes for each device byte, all others 0
state_of : Column → Bytes
state_of [] = []
state_of (b ∷ d) = b ∷ replicate 15 0 ++ state_of d

state_answered : Bytes → ℕ
unfolding computing mixed
state_answered st = answer_of (check_state mixed st) 0

-- settle with the limit, and a signal column of n entries
settle_answered : ℕ → ℕ → Column → ℕ
unfolding computing mixed
settle_answered limit n d = answer_of (check_settle bench_profile mixed d limit n 5 5) 0

-- tick by one at the clock's number, and switch, with a signal column of n entries
tick_answered : ℕ → ℕ → Bytes → ℕ
unfolding computing mixed
tick_answered now n st = answer_of (check_tick bench_profile mixed st now 1 n 5 5) 0

switch_answered : ℕ → Bytes → ℕ
unfolding computing mixed
switch_answered n st = answer_of (check_step bench_profile mixed st n 5 5) 0

-- tick and settle, of whatever table, with buffers of no byte
settle_nothing : Bytes → Column → ℕ
unfolding computing
settle_nothing t d = answer_of (check_settle bench_profile t d 0 0 0 0) 0

tick_nothing : Bytes → ℕ
unfolding computing
tick_nothing t = answer_of (check_tick bench_profile t [] 4294967295 1 0 0 0) 0

-- the support list, with a column of n entries
supports_answered : ℕ → Bytes → ℕ
unfolding computing
supports_answered n t = answer_of (check_supports bench_profile t n) 0

-- fresh, with a state of n bytes
fresh_answered : ℕ → Bytes → ℕ
unfolding computing
fresh_answered n t = answer_of (check_fresh bench_profile t n (rows t) (rows t) (rows t)) 0

cases : List Case
unfolding answered given three refused columns pulled comparing text devices_answered state_of state_answered settle_answered tick_answered switch_answered settle_nothing tick_nothing supports_answered fresh_answered
cases =
    -- a comparator's level: 0, 15, 16, 200, 255; and not given
    record {
      given =
          answered (given Comparator 0) ∷ answered (given Comparator 15) ∷ answered (given Comparator 16) ∷ answered (given Comparator 200)
          ∷ answered (given Comparator 255) ∷ answered (block Comparator 0 0 0) ∷ [];
      wanted = 0 ∷ 0 ∷ refused 10 0 ∷ refused 10 0 ∷ refused 10 0 ∷ 0 ∷ [];
    }
    -- 200, of each kind from 1 to 12
    ∷ record { given = tabulate 12 (λ k. answered (given (k + 1) 200)); wanted = replicate 5 0 ++ refused 10 0 ∷ replicate 6 0 }
    -- a value above 15 whose "given" byte is 0 or 2 is number 4, and not 10
    ∷ record { given = answered (set (given Comparator 16) 15 0) ∷ answered (set (given Comparator 200) 15 2) ∷ []; wanted = refused 4 0 ∷ refused 4 0 ∷ [] }
    -- "row as for 4": the first
    ∷ record { given = answered (three 15 16 255) ∷ answered (three 0 15 16) ∷ answered (three 16 16 16) ∷ []; wanted = refused 10 1 ∷ refused 10 2 ∷ refused 10 0 ∷ [] }
    -- "just after 5": a bad row, and a misplaced one, go before, wherever they stand
    ∷ record {
      given =
          answered (three 16 16 16 ++ block 14 3 0 0) ∷ answered (three 16 16 16 ++ block Solid 2 0 0) ∷ answered (three 15 15 15 ++ block Solid 2 0 0)
          ∷ [];
      wanted = refused 4 3 ∷ refused 5 3 ∷ refused 5 3 ∷ [];
    }
    -- a bulb with 200, by 14 bytes
    ∷ record { given = answer_of (check_input (bench_profile ++ 0 ∷ []) (given CopperBulb 200)) 0 ∷ []; wanted = 0 ∷ [] }
    -- on rows before 6 and before 10 on the column, in whatever call
    ∷ record {
      given =
          settle_nothing (comparing 200) [] ∷ settle_nothing (three 15 16 0) (200 ∷ 0 ∷ 0 ∷ []) ∷ settle_nothing (three 15 15 0) (200 ∷ 0 ∷ 0 ∷ []) ∷ tick_nothing (comparing 200)
          ∷ tick_nothing (comparing 15) ∷ supports_answered 0 (comparing 200) ∷ supports_answered 0 (comparing 15) ∷ [];
      wanted = refused 10 0 ∷ refused 10 1 ∷ refused 10 0 ∷ refused 10 0 ∷ refused 6 0 ∷ refused 10 0 ∷ refused 7 0 ∷ [];
    }
    -- a lever's level is capped: at 7, at 15, at 200
    ∷ record {
      given = columns (pulled 7) ++ columns (pulled 15) ++ columns (pulled 200);
      wanted = (0 ∷ 7 ∷ 0 ∷ 0 ∷ 7 ∷ 0 ∷ []) ++ (0 ∷ 15 ∷ 0 ∷ 0 ∷ 15 ∷ 0 ∷ []) ++ (0 ∷ 15 ∷ 0 ∷ 0 ∷ 15 ∷ 0 ∷ []);
    }
    -- test 5 with 15, and with 200
    ∷ record { given = text (comparing 15); wanted = ascii "blocks=2\nrounds=2\nrow=0,1,0,15,0,0\nrow=1,1,0,15,0,0\n" }
    ∷ record { given = text (comparing 200); wanted = ascii "refusal=10\nplace=0\n" }
    -- fresh: before a state that is not sixteen bytes a row
    ∷ record { given = fresh_answered 0 (comparing 200) ∷ fresh_answered 0 (comparing 15) ∷ fresh_answered 32 (comparing 15) ∷ []; wanted = refused 10 0 ∷ refused 7 0 ∷ 0 ∷ [] }
    -- a device column: valid; the first above 15; another kind's byte above 15 is number 6
    ∷ record {
      given =
          devices_answered (1 ∷ 15 ∷ 0 ∷ 15 ∷ 1 ∷ []) ∷ devices_answered (1 ∷ 16 ∷ 0 ∷ 255 ∷ 1 ∷ []) ∷ devices_answered (1 ∷ 15 ∷ 0 ∷ 16 ∷ 1 ∷ [])
          ∷ devices_answered (16 ∷ 0 ∷ 0 ∷ 0 ∷ 0 ∷ []) ∷ devices_answered (0 ∷ 0 ∷ 16 ∷ 0 ∷ 0 ∷ []) ∷ [];
      wanted = 0 ∷ refused 10 1 ∷ refused 10 3 ∷ refused 6 0 ∷ refused 6 2 ∷ [];
    }
    -- "just after 6": a bad value at a later row, and a wrong length, go before
    ∷ record { given = devices_answered (1 ∷ 16 ∷ 0 ∷ 0 ∷ 2 ∷ []) ∷ devices_answered (1 ∷ 16 ∷ 0 ∷ 0 ∷ []) ∷ []; wanted = refused 6 4 ∷ refused 6 0 ∷ [] }
    -- and 7, 8 after it
    ∷ record {
      given =
          settle_answered 0 0 (1 ∷ 16 ∷ 0 ∷ 0 ∷ 0 ∷ []) ∷ settle_answered 0 0 (1 ∷ 15 ∷ 0 ∷ 0 ∷ 0 ∷ []) ∷ settle_answered 0 5 (1 ∷ 16 ∷ 0 ∷ 0 ∷ 0 ∷ [])
          ∷ settle_answered 0 5 (1 ∷ 15 ∷ 0 ∷ 0 ∷ 0 ∷ []) ∷ [];
      wanted = refused 10 1 ∷ refused 7 0 ∷ refused 10 1 ∷ refused 8 0 ∷ [];
    }
    -- a state, likewise: byte 0 of a row; another byte of a later row
    ∷ record {
      given =
          state_answered (state_of (1 ∷ 15 ∷ 0 ∷ 15 ∷ 0 ∷ [])) ∷ state_answered (state_of (1 ∷ 15 ∷ 0 ∷ 200 ∷ 0 ∷ [])) ∷ state_answered (state_of (1 ∷ 16 ∷ 0 ∷ 200 ∷ 0 ∷ []))
          ∷ state_answered (set (state_of (1 ∷ 16 ∷ 0 ∷ 0 ∷ 0 ∷ [])) 74 1) ∷ state_answered (state_of (1 ∷ 16 ∷ 0 ∷ 0 ∷ [])) ∷ [];
      wanted = 0 ∷ refused 10 3 ∷ refused 10 1 ∷ refused 6 4 ∷ refused 6 0 ∷ [];
    }
    -- and 7, 9 after it
    ∷ record {
      given =
          tick_answered 4294967295 0 (state_of (0 ∷ 0 ∷ 0 ∷ 16 ∷ 0 ∷ [])) ∷ tick_answered 4294967295 5 (state_of (0 ∷ 0 ∷ 0 ∷ 16 ∷ 0 ∷ []))
          ∷ tick_answered 4294967295 0 (state_of (0 ∷ 0 ∷ 0 ∷ 15 ∷ 0 ∷ [])) ∷ tick_answered 4294967295 5 (state_of (0 ∷ 0 ∷ 0 ∷ 15 ∷ 0 ∷ []))
          ∷ switch_answered 0 (state_of (0 ∷ 0 ∷ 0 ∷ 16 ∷ 0 ∷ [])) ∷ switch_answered 0 (state_of (0 ∷ 0 ∷ 0 ∷ 15 ∷ 0 ∷ [])) ∷ [];
      wanted = refused 10 3 ∷ refused 10 3 ∷ refused 7 0 ∷ refused 9 0 ∷ refused 10 3 ∷ refused 7 0 ∷ [];
    }
    ∷ []

claim : T (passes cases)
unfolding passes cases
claim = tt
