-- "From the test book": the tests marked P, over packed bytes, as one claim.
-- Assumes nothing.
use mathlib.Core.Bool.{Bool, true, ◌&&◌}
use mathlib.Core.List.{List, [], ◌∷◌, ◌++◌}
use Prim.Native.Nat.{ℕ, zero, suc, ◌+◌, ◌*◌}
use lib.ListN.{get_or, take, drop, replicate}
use lib.Dec.{T}
use lib.IntN.{pos, negsuc}
use Rattle.columns.specs.Column.{Bytes, Column, same}
use Rattle.columns.specs.Ascii.{ascii}
use Rattle.blocks.specs.Kind.{Solid, RedstoneWire, RedstoneTorch, Repeater, Comparator, Lever, RedstoneBlock}
use Rattle.blocks.specs.Profile.{bench_profile}
use Rattle.places.specs.Places.{East, cell}
use Rattle.world.specs.Rows.{rows}
use Rattle.refusals.specs.Check.{answer_of, written}
use Rattle.wire.specs.Transfer.{dust_transfer, transfer_number}
use Rattle.redrawing.specs.Drawn.{update_wire_shapes}
use Rattle.electrical.specs.Answer.{rounds_of, settled, check_settle}
use Rattle.states.specs.Row.{device_of, toggles_of, candidate_of, delay_of, bits_set}
use Rattle.updates.specs.State.{sixteen, fresh_devices, fresh_state}
use Rattle.updates.specs.Tick.{tick, ticks}
use Rattle.switching.specs.Switch.{switched}
use Rattle.report.specs.Text.{settle_text}
use Rattle.cases.proofs.Computing.{computing}
use Rattle.cases.proofs.Build as Build
use Rattle.cases.proofs.Build.{block, facing, powered, delay, support, shape, subtract}

-- what a test gives, and what it is to give
pub record Case : Type 0 where
  pub given : Column
  pub wanted : Column

unfoldable pub passes : List Case → Bool
unfolding computing
passes [] = true
passes (c ∷ cs) = same c.given c.wanted && passes cs

-- ---- settle, under the bench profile

-- what every byte of the three columns is before a call
abbrev before : ℕ
before = 99

-- a call with the fresh devices: the answer, then the signal, weak and strong columns, which a refused call leaves as they were
settling : ℕ → Bytes → Column
unfolding computing
settling limit t =
    let n = rows t in
    let d = fresh_devices t in
    let s = settled bench_profile t d in
    let c = check_settle bench_profile t d limit n n n in
    let old = replicate n before in
    answer_of c (rounds_of bench_profile t d) ∷ written c old s.signal ++ written c old s.weak ++ written c old s.strong

-- test 3's table
unfoldable pub line : Bytes
line =
    block RedstoneBlock 0 1 0 ++ block Solid 1 0 0 ++ block RedstoneWire 1 1 0 ++ block Solid 2 0 0 ++ block RedstoneWire 2 1 0

-- what the program `settle` writes for a table
text : Bytes → Column
unfolding computing
text t = settle_text (bench_profile ++ t)

-- test 4's table: the redstone block, and n pairs of Solid and dust from x on
pairs : ℕ → ℕ → Bytes
pairs zero x = []
pairs (suc n) x = block Solid x 0 0 ++ block RedstoneWire x 1 0 ++ pairs n (suc x)

long_line : Bytes
unfolding pairs
long_line = block RedstoneBlock 0 1 0 ++ pairs 15 1

-- what a call answers, and the last signal
ends : ℕ → Bytes → Column
unfolding computing settling
ends limit t = let all = settling limit t in get_or all 0 0 ∷ get_or all (rows t) 0 ∷ []

-- test 5's table
comparing : Bytes
comparing = facing East (Build.level 15 (block Comparator 0 1 0)) ++ block RedstoneWire 1 1 0

-- ---- dust_transfer, under the bench profile

-- test 6: upward and downward past the middle block of the shape
rising : ℕ → Column
unfolding computing
rising s =
    let t = block RedstoneWire 0 1 0 ++ shape s (block Solid 1 1 0) ++ block RedstoneWire 1 2 0 in
    let low = cell (pos 0) (pos 1) (pos 0) in
    let high = cell (pos 1) (pos 2) (pos 0) in
    transfer_number (dust_transfer bench_profile t low high) ∷ transfer_number (dust_transfer bench_profile t high low) ∷ []

-- ---- redrawing, under the bench profile

-- bytes 23 to 27 of row i
arms_at : Bytes → ℕ → Bytes
arms_at t i = take 5 (drop (i * 32 + 23) t)

-- the stored arms of test 6's two dusts, redrawn past the middle block of the shape
redrawn_past : ℕ → Column
unfolding computing arms_at
redrawn_past s =
    let t = update_wire_shapes bench_profile (block RedstoneWire 0 1 0 ++ shape s (block Solid 1 1 0) ++ block RedstoneWire 1 2 0) in
    arms_at t 0 ++ arms_at t 2

-- ---- ticks, under the bench profile

-- one tick, and many
tick_of : Bytes → Bytes → Bytes
unfolding computing
tick_of = tick bench_profile

ticks_of : ℕ → Bytes → Bytes → Bytes
unfolding computing
ticks_of n = ticks n bench_profile

fresh_of : Bytes → Bytes
unfolding computing
fresh_of = fresh_state bench_profile

-- test 7: the delay of a repeater whose delay byte is n
delayed : ℕ → ℕ
unfolding computing
delayed n = delay_of (delay n (block Repeater 0 0 0)) 0

-- a redstone block, and a repeater of delay 3 that it feeds
waiting : Bytes
waiting = block RedstoneBlock 0 0 0 ++ facing East (delay 3 (block Repeater 1 0 0))

-- the repeater's output after each of three ticks
outputs : Column
unfolding waiting tick_of ticks_of fresh_of
outputs =
    let one = tick_of waiting (fresh_of waiting) in
    let two = tick_of waiting one in
    let three = tick_of waiting two in
    device_of (sixteen one 1) ∷ device_of (sixteen two 1) ∷ device_of (sixteen three 1) ∷ []

-- a lever that is on and gives the level
lever : ℕ → ℕ → ℕ → ℕ → Bytes
lever n x y z = powered (Build.level n (block Lever x y z))

-- test 8: what the comparator gives after a tick, with levers of these levels behind it and at its side
compares : (Bytes → Bytes) → ℕ → ℕ → ℕ
unfolding lever tick_of fresh_of
compares mode rear side =
    let t = lever rear 0 0 1 ++ lever side 1 0 0 ++ facing East (mode (block Comparator 1 0 1)) in
    device_of (sixteen (tick_of t (fresh_of t)) 2)

-- compare mode
compare : Bytes → Bytes
compare r = r

-- test 9's table: a lever on a Solid, and a torch at its side
burning : Bytes
burning =
    block Solid 0 0 0 ++ support (pos 0) (negsuc 0) (pos 0) (block Lever 0 1 0) ++ support (negsuc 0) (pos 0) (pos 0) (block RedstoneTorch 1 0 0)

-- the same with the lever switched
switched_to : ℕ → Bytes
unfolding computing burning
switched_to power = switched burning (cell (pos 0) (pos 1) (pos 0)) power

on : Bytes
unfolding switched_to
on = switched_to 1

off : Bytes
unfolding switched_to
off = switched_to 0

-- toggles at ticks 1 and 31: how many count at 31 and at 32
counted : Column
unfolding burning on off computing tick_of ticks_of fresh_of
counted =
    let at1 = tick_of on (fresh_of burning) in
    let at31 = tick_of off (ticks_of 29 on at1) in
    let at32 = tick_of off at31 in
    bits_set 31 (toggles_of (sixteen at31 2)) ∷ bits_set 31 (toggles_of (sixteen at32 2)) ∷ []

-- n pairs of ticks, with the lever on and then off: a toggle at each tick
toggling : ℕ → Bytes → Bytes
unfolding on off tick_of
toggling zero st = st
toggling (suc n) st = toggling n (tick_of off (tick_of on st))

-- eight toggles at ticks 1 to 8: the candidate at 7, at 8, and at 48, with the toggles that count there
candidates : Column
unfolding burning on off tick_of ticks_of fresh_of toggling computing
candidates =
    let at7 = tick_of on (toggling 3 (fresh_of burning)) in
    let at8 = tick_of off at7 in
    let at48 = ticks_of 40 off at8 in
    candidate_of (sixteen at7 2) ∷ candidate_of (sixteen at8 2) ∷ candidate_of (sixteen at48 2) ∷ bits_set 31 (toggles_of (sixteen at48 2)) ∷ []

-- ---- the book

cases : List Case
unfolding settling line text long_line ends comparing rising redrawn_past delayed outputs compares compare counted candidates
cases =
    -- 1: "no rows: rounds 1; limit 0 gives 8"
    record { given = settling 128 []; wanted = 1 ∷ [] }
    ∷ record { given = settling 0 []; wanted = 524288 ∷ [] }
    -- 2: "one Solid: rounds 2 .. one RedstoneBlock: rounds 1, signal 15"
    ∷ record { given = settling 128 (block Solid 0 0 0); wanted = 2 ∷ 0 ∷ 0 ∷ 0 ∷ [] }
    ∷ record { given = settling 128 (block RedstoneBlock 0 0 0); wanted = 1 ∷ 15 ∷ 0 ∷ 0 ∷ [] }
    -- 3: rounds 4, then signal, weak and strong of the five rows
    ∷ record {
      given = settling 128 line;
      wanted = 4 ∷ (15 ∷ 0 ∷ 15 ∷ 0 ∷ 14 ∷ []) ++ (0 ∷ 15 ∷ 0 ∷ 14 ∷ 0 ∷ []) ++ (0 ∷ 0 ∷ 0 ∷ 0 ∷ 0 ∷ []);
    }
    -- and "`settle` writes"
    ∷ record {
      given = text line;
      wanted =
          ascii "blocks=5\nrounds=4\nrow=0,1,0,15,0,0\nrow=1,0,0,0,15,0\nrow=1,1,0,15,0,0\nrow=2,0,0,0,14,0\nrow=2,1,0,14,0,0\n";
    }
    -- a position that is not after the row before: number 5, at the second row
    ∷ record { given = text (block Solid 1 0 0 ++ block Solid 0 0 0); wanted = ascii "refusal=5\nplace=1\n" }
    -- 4: "last level 1, rounds 17; limit 16 gives 8"
    ∷ record { given = ends 128 long_line; wanted = 17 ∷ 1 ∷ [] }
    ∷ record { given = ends 16 long_line; wanted = 524288 ∷ before ∷ [] }
    -- 5, "run with 15 instead of 200": signals 15 and 15, rounds 2
    ∷ record { given = settling 128 comparing; wanted = 2 ∷ 15 ∷ 15 ∷ 0 ∷ 0 ∷ 0 ∷ 0 ∷ [] }
    -- 6: with a top slab "Rise upward, none downward. Plain Solid instead: both"
    ∷ record { given = rising 2; wanted = 2 ∷ 0 ∷ [] }
    ∷ record { given = rising 0; wanted = 2 ∷ 3 ∷ [] }
    -- 6, redrawn: the first dust rises by Side past a top slab and by Up past a plain Solid, which no transfer tells apart, and each
    -- lone arm gains its opposite
    ∷ record { given = redrawn_past 2; wanted = 1 ∷ 0 ∷ 2 ∷ 0 ∷ 2 ∷ 1 ∷ 0 ∷ 2 ∷ 0 ∷ 2 ∷ [] }
    ∷ record { given = redrawn_past 0; wanted = 1 ∷ 0 ∷ 3 ∷ 0 ∷ 2 ∷ 1 ∷ 0 ∷ 2 ∷ 0 ∷ 2 ∷ [] }
    -- 7: "delay byte 0 given is 1; 9 is 4. Delay 3, dark, input on from the first tick: output 0, 0, 1"
    ∷ record { given = delayed 0 ∷ delayed 9 ∷ []; wanted = 1 ∷ 4 ∷ [] }
    ∷ record { given = outputs; wanted = 0 ∷ 0 ∷ 1 ∷ [] }
    -- 8: "comparator 7 against 7 gives 7, 6 against 7 gives 0; subtract 7 and 5 gives 2, 6 and 7 gives 0"
    ∷ record { given = compares compare 7 7 ∷ compares compare 6 7 ∷ []; wanted = 7 ∷ 0 ∷ [] }
    ∷ record { given = compares subtract 7 5 ∷ compares subtract 6 7 ∷ []; wanted = 2 ∷ 0 ∷ [] }
    -- 9: "toggles at ticks 1 and 31 both count at 31; at 32 the first is dropped. Eight at ticks 1 to 8: candidate at 8, for ever"
    ∷ record { given = counted; wanted = 2 ∷ 1 ∷ [] }
    ∷ record { given = candidates; wanted = 0 ∷ 1 ∷ 1 ∷ 0 ∷ [] }
    ∷ []

claim : T (passes cases)
unfolding passes cases
claim = tt
