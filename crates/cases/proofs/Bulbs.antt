-- Document 02, Change 4, computed: a bulb's light over ticks and switches, fresh and valid states of bulbs, and which rows and profiles are refused.
-- Assumes nothing.
use mathlib.Core.Path.{◌≡◌, refl}
use mathlib.Core.List.{List, [], ◌∷◌, ◌++◌}
use Prim.Native.Nat.{ℕ, ◌+◌, ◌*◌}
use native.Mathlib.Omega.{arith}
use lib.ListN.{set, take, replicate}
use lib.Dec.{T}
use lib.IntN.{pos, negsuc}
use Rattle.columns.specs.Column.{Bytes, Column, tabulate}
use Rattle.columns.specs.Ascii.{ascii}
use Rattle.blocks.specs.Kind.{Solid, RedstoneWire, RedstoneTorch, Repeater, Lever, RedstoneLamp, RedstoneBlock, CopperBulb}
use Rattle.blocks.specs.Profile.{bench_profile}
use Rattle.blocks.proofs.Bulbs.{with_bulb}
use Rattle.places.specs.Places.{East, cell}
use Rattle.refusals.specs.Check.{refused as refusal, answer_of, check_input}
use Rattle.refusals.proofs.Bulbs.{bulb_refused}
use Rattle.states.specs.Row.{lit_of, had_power_of}
use Rattle.updates.specs.State.{sixteen, check_state, fresh_state}
use Rattle.updates.specs.Tick.{tick, ticks}
use Rattle.switching.specs.Switch.{switched}
use Rattle.report.specs.Text.{settle_text}
use Rattle.cases.proofs.Computing.{computing}
use Rattle.cases.proofs.Build.{block, facing, powered, support}
use Rattle.cases.proofs.Cases.{Case, passes}

-- the bench profile with the byte b for the bulb
with : ℕ → Bytes
with b = with_bulb bench_profile b

-- that of the cases: the bulb supports components and receives weak and strong power; no repeater reads it, and it drives no dust
bench_with_bulb : Bytes
unfolding with
bench_with_bulb = with 7

bulb : Bytes
bulb = block CopperBulb 0 0 0

-- powered false
unpowered : Bytes → Bytes
unpowered r = set r 14 1

-- light and byte 9 of row i
light_and_byte9 : Bytes → ℕ → Column
unfolding computing
light_and_byte9 st i = lit_of (sixteen st i) ∷ had_power_of (sixteen st i) ∷ []

-- light and byte 9 of a fresh bulb, by itself and under a redstone block
fresh_bulb : Bytes → Column
unfolding computing bench_with_bulb light_and_byte9
fresh_bulb r = light_and_byte9 (fresh_state bench_with_bulb r) 0 ++ light_and_byte9 (fresh_state bench_with_bulb (r ++ block RedstoneBlock 0 1 0)) 0

-- a bulb with a lever on it
switchable : Bytes
unfolding bulb
switchable = bulb ++ support (pos 0) (negsuc 0) (pos 0) (block Lever 0 1 0)

thrown : Bytes → ℕ → Bytes
unfolding computing
thrown t power = switched t (cell (pos 0) (pos 1) (pos 0)) power

-- the state after the lever is thrown to each power of the list, with a tick after each
played : Bytes → List ℕ → Bytes → Bytes → Bytes
unfolding computing thrown
played p [] t st = st
played p (power ∷ rest) t st = played p rest (thrown t power) (tick p (thrown t power) st)

-- light and byte 9 of the bulb then, by the bulb's byte
played_by : ℕ → List ℕ → Column
unfolding computing with switchable played light_and_byte9
played_by b powers = light_and_byte9 (played (with b) powers switchable (fresh_state (with b) switchable)) 0

-- the lever on and off again before the tick
pulsed : Column
unfolding computing bench_with_bulb switchable thrown light_and_byte9
pulsed =
    let t = thrown (thrown switchable 1) 0 in
    light_and_byte9 (tick bench_with_bulb t (fresh_state bench_with_bulb switchable)) 0

-- light and byte 9 of row i after n ticks
after : Bytes → ℕ → Bytes → ℕ → Column
unfolding computing light_and_byte9
after p n t i = light_and_byte9 (ticks n p t (fresh_state p t)) i

-- a torch beside dust on a bulb: the dust gives the bulb weak power alone
under_dust : Bytes
unfolding bulb
under_dust = bulb ++ block RedstoneWire 0 1 0 ++ block RedstoneTorch 0 1 1

-- a lever on a Solid that a repeater of delay 1 reads, and a bulb that it outputs into: the repeater comes on in the first tick
behind_repeater : Bytes
behind_repeater =
    block Solid 0 0 0 ++ powered (support (pos 0) (negsuc 0) (pos 0) (block Lever 0 1 0)) ++ facing East (block Repeater 1 0 0) ++ block CopperBulb 2 0 0

-- the bulb's own position switched on, between two ticks
self_switched : Column
unfolding computing bench_with_bulb bulb light_and_byte9
self_switched =
    let p = bench_with_bulb in
    let t = switched bulb (cell (pos 0) (pos 0) (pos 0)) 1 in
    light_and_byte9 (tick p t (fresh_state p bulb)) 0 ++ light_and_byte9 (fresh_state p t) 0

-- what a profile and these rows are answered: 0, or the refusal
answered : Bytes → Bytes → ℕ
unfolding computing
answered p t = answer_of (check_input p t) 0

-- what a state of one row is answered
answered_state : Bytes → Bytes → ℕ
unfolding computing
answered_state t st = answer_of (check_state t st) 0

-- sixteen bytes, 0 but for byte k, which is b
only_byte : ℕ → ℕ → Bytes
only_byte k b = set (replicate 16 0) k b

number1 : ℕ
number1 = 65536

-- at row i
number4 : ℕ → ℕ
number4 i = 4 * 65536 + i

number5 : ℕ → ℕ
number5 i = 5 * 65536 + i

number6 : ℕ
number6 = 6 * 65536

cases : List Case
unfolding with bench_with_bulb bulb unpowered fresh_bulb switchable played_by pulsed after under_dust behind_repeater self_switched answered answered_state only_byte number1 number4 number5 number6
cases =
    -- fresh, by itself and under a redstone block: powered missing, false and true
    record { given = fresh_bulb bulb; wanted = 0 ∷ 0 ∷ 0 ∷ 1 ∷ [] }
    ∷ record { given = fresh_bulb (unpowered bulb); wanted = 0 ∷ 0 ∷ 0 ∷ 1 ∷ [] }
    ∷ record { given = fresh_bulb (powered bulb); wanted = 1 ∷ 0 ∷ 1 ∷ 1 ∷ [] }
    -- power arrives; is held; goes; comes again; is held
    ∷ record { given = played_by 7 (1 ∷ []); wanted = 1 ∷ 1 ∷ [] }
    ∷ record { given = played_by 7 (1 ∷ 1 ∷ []); wanted = 1 ∷ 1 ∷ [] }
    ∷ record { given = played_by 7 (1 ∷ 1 ∷ 0 ∷ []); wanted = 1 ∷ 0 ∷ [] }
    ∷ record { given = played_by 7 (1 ∷ 1 ∷ 0 ∷ 1 ∷ []); wanted = 0 ∷ 1 ∷ [] }
    ∷ record { given = played_by 7 (1 ∷ 1 ∷ 0 ∷ 1 ∷ 1 ∷ []); wanted = 0 ∷ 1 ∷ [] }
    -- pulses of one tick, and none; on and off between two ticks
    ∷ record { given = played_by 7 (1 ∷ 0 ∷ 1 ∷ 0 ∷ 1 ∷ []) ++ played_by 7 (0 ∷ 0 ∷ []); wanted = 1 ∷ 1 ∷ 0 ∷ 0 ∷ [] }
    ∷ record { given = pulsed; wanted = 0 ∷ 0 ∷ [] }
    -- a lever gives strong power: a bulb that receives it alone, weak power alone, neither
    ∷ record { given = played_by 4 (1 ∷ []) ++ played_by 2 (1 ∷ []) ++ played_by 25 (1 ∷ []); wanted = 1 ∷ 1 ∷ 0 ∷ 0 ∷ 0 ∷ 0 ∷ [] }
    -- dust gives weak power: a bulb that receives it alone, strong power alone
    ∷ record { given = after (with 2) 0 under_dust 0 ++ after (with 4) 0 under_dust 0; wanted = 0 ∷ 1 ∷ 0 ∷ 0 ∷ [] }
    -- a repeater's power arrives in the tick in which the repeater comes on: no tick, one, two, three
    ∷ record {
      given = after bench_with_bulb 0 behind_repeater 3 ++ after bench_with_bulb 1 behind_repeater 3 ++ after bench_with_bulb 2 behind_repeater 3 ++ after bench_with_bulb 3 behind_repeater 3;
      wanted = 0 ∷ 0 ∷ 1 ∷ 1 ∷ 1 ∷ 1 ∷ 1 ∷ 1 ∷ [];
    }
    -- the bulb itself switched on: no light, but in a fresh state
    ∷ record { given = self_switched; wanted = 0 ∷ 0 ∷ 1 ∷ 0 ∷ [] }
    -- the program's text for a bulb with 14 bytes, and with 13
    ∷ record { given = settle_text (bench_with_bulb ++ bulb); wanted = ascii "blocks=1\nrounds=2\nrow=0,0,0,0,0,0\n" }
    ∷ record { given = settle_text (bench_profile ++ bulb); wanted = ascii "refusal=4\nplace=0\n" }
    -- "with 13 a bulb row is number 4"; with 14 a row of kind 14 is, and the same position twice is number 5
    ∷ record {
      given =
          answered bench_profile bulb ∷ answered bench_profile (block Solid 0 0 0 ++ block CopperBulb 0 1 0) ∷ answered bench_with_bulb bulb
          ∷ answered bench_with_bulb (block 14 0 0 0) ∷ answered bench_with_bulb (bulb ++ bulb) ∷ [];
      wanted = number4 0 ∷ number4 1 ∷ 0 ∷ number4 0 ∷ number5 1 ∷ [];
    }
    -- profiles of 0 to 16 bytes
    ∷ record {
      given = tabulate 17 (λ n. answered (take n (with 7 ++ 0 ∷ 0 ∷ [])) []);
      wanted = replicate 13 number1 ++ 0 ∷ 0 ∷ number1 ∷ number1 ∷ [];
    }
    -- the bulb's byte may reach 31
    ∷ record { given = answered (with 0) [] ∷ answered (with 31) [] ∷ answered (with 32) [] ∷ answered (with 63) [] ∷ []; wanted = 0 ∷ 0 ∷ number1 ∷ number1 ∷ [] }
    -- a bulb's state: each byte at 1, and bytes 2 and 9 at 2
    ∷ record {
      given = tabulate 16 (λ k. answered_state bulb (only_byte k 1));
      wanted = number6 ∷ number6 ∷ 0 ∷ replicate 6 number6 ++ 0 ∷ replicate 6 number6;
    }
    ∷ record { given = answered_state bulb (only_byte 2 2) ∷ answered_state bulb (only_byte 9 2) ∷ []; wanted = number6 ∷ number6 ∷ [] }
    -- byte 9 of other kinds
    ∷ record {
      given =
          answered_state (block RedstoneLamp 0 0 0) (only_byte 9 1) ∷ answered_state (block RedstoneTorch 0 0 0) (only_byte 9 1) ∷ answered_state (block Repeater 0 0 0) (only_byte 9 1)
          ∷ answered_state (block Solid 0 0 0) (only_byte 9 1) ∷ [];
      wanted = number6 ∷ number6 ∷ number6 ∷ number6 ∷ [];
    }
    ∷ []

claim : T (passes cases)
unfolding passes cases
claim = tt

-- `bulb_refused`, of a table that meets every hypothesis
refused : check_input bench_profile bulb ≡ refusal 4 0
unfolding computing bulb
refused = bulb_refused bench_profile bulb 0 refl refl refl (omega arith) (omega arith) refl (λ j l. absurd (omega arith))
