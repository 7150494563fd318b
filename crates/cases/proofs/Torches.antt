-- Document 02, Change 3, computed: what a torch charges with profile value 32 and without, and which profiles are refused.
-- Assumes nothing.
use mathlib.Core.Path.{◌≡◌, refl}
use mathlib.Core.Bool.{false}
use mathlib.Core.List.{List, [], ◌∷◌, ◌++◌}
use Prim.Native.Nat.{ℕ}
use native.Mathlib.Omega.{arith}
use lib.ListN.{set}
use lib.Dec.{T}
use lib.IntN.{pos, negsuc}
use Rattle.columns.specs.Column.{Bytes, Column, row, tabulate}
use Rattle.blocks.specs.Kind.{Solid, Transparent, RedstoneWire, RedstoneTorch, Repeater, Comparator, RedstoneLamp}
use Rattle.blocks.specs.Profile.{bench_profile}
use Rattle.blocks.proofs.Values.{without_value}
use Rattle.places.specs.Places.{East, West}
use Rattle.world.specs.Rows.{rows}
use Rattle.layout.specs.Good.{good_profile}
use Rattle.layout.proofs.Profiles.{good_profile01, reach_63, past_63}
use Rattle.refusals.specs.Check.{answer_of, check_input}
use Rattle.emitted.specs.Emitted.{IsValid}
use Rattle.electrical.specs.Answer.{rounds_of, settled}
use Rattle.electrical.proofs.Torches.{OverLitTorch, torch_charges}
use Rattle.states.specs.Row.{device_of}
use Rattle.updates.specs.State.{sixteen, fresh_devices, fresh_state}
use Rattle.updates.specs.Tick.{ticks}
use Rattle.cases.proofs.Computing.{computing}
use Rattle.cases.proofs.Build.{block, facing, support, shape}
use Rattle.cases.proofs.Cases.{Case, passes}

-- the bench profile with byte b for the kind k
with : ℕ → ℕ → Bytes
with k b = set bench_profile k b

-- the bench profile with the value
valued : Bytes
unfolding with
valued = with RedstoneTorch 32

-- with the fresh devices: the rounds, then signal, weak and strong of every row
settling : Bytes → Bytes → Column
unfolding computing
settling p t =
    let d = fresh_devices t in
    let s = settled p t d in
    rounds_of p t d ∷ s.signal ++ s.weak ++ s.strong

-- strong power of every row
strongs : Bytes → Bytes → Column
unfolding computing
strongs p t = (settled p t (fresh_devices t)).strong

-- powered false
unlit : Bytes → Bytes
unlit r = set r 14 1

torch : Bytes
torch = block RedstoneTorch 0 0 0

-- strong power of the block over the torch
over : Bytes → ℕ
unfolding strongs valued torch
over b = row (strongs valued (torch ++ b)) 1

-- the same of a Solid over this torch
over_this : Bytes → ℕ
unfolding strongs valued
over_this r = row (strongs valued (r ++ block Solid 0 1 0)) 1

-- a torch with a block at each of its six sides: west, below, north, the torch, south, above, east
surrounded : Bytes
surrounded =
    block Solid 0 1 1 ++ block Solid 1 0 1 ++ block Solid 1 1 0 ++ block RedstoneTorch 1 1 1 ++ block Solid 1 1 2 ++ block Solid 1 2 1 ++ block Solid 2 1 1

-- a torch under a Solid, and what the Solid feeds: a comparator west of it, a torch that hangs on it, dust on it, a repeater east of it
fed : Bytes
fed =
    facing West (block Comparator 0 1 1) ++ block RedstoneTorch 1 0 1 ++ block Solid 1 1 1 ++ support (pos 0) (pos 0) (negsuc 0) (block RedstoneTorch 1 1 2)
    ++ block RedstoneWire 1 2 1 ++ facing East (block Repeater 2 1 1)

-- a clock: the torch hangs on the first Solid and charges the second, and the dust on that one leads down to dust on the first
clock : Bytes
clock =
    block Solid 0 0 1 ++ block RedstoneWire 0 1 1 ++ support (negsuc 0) (pos 0) (pos 0) (block RedstoneTorch 1 0 1) ++ block Solid 1 1 1
    ++ block RedstoneWire 1 2 1

-- the device bytes after so many ticks
devices_after : ℕ → Bytes → Bytes → Column
unfolding computing
devices_after n p t = let st = ticks n p t (fresh_state p t) in tabulate (rows t) (λ i. device_of (sixteen st i))

-- what a profile and no rows are answered: 0, or the refusal
answered : Bytes → ℕ
unfolding computing
answered p = answer_of (check_input p []) 0

-- "Number 1", row 0
number1 : ℕ
number1 = 65536

cases : List Case
unfolding with valued settling strongs unlit torch over over_this surrounded fed clock devices_after answered number1
cases =
    -- under a Solid with dust on it, with the value and without: rounds, signal, weak and strong
    record {
      given = settling valued (torch ++ block Solid 0 1 0 ++ block RedstoneWire 0 2 0);
      wanted = 3 ∷ (15 ∷ 0 ∷ 15 ∷ []) ++ (0 ∷ 15 ∷ 0 ∷ []) ++ (0 ∷ 15 ∷ 0 ∷ []);
    }
    ∷ record {
      given = settling bench_profile (torch ++ block Solid 0 1 0 ++ block RedstoneWire 0 2 0);
      wanted = 2 ∷ (15 ∷ 0 ∷ 0 ∷ []) ++ (0 ∷ 0 ∷ 0 ∷ []) ++ (0 ∷ 0 ∷ 0 ∷ []);
    }
    -- the byte's other values do not count: 31, and 63
    ∷ record {
      given = row (strongs (with RedstoneTorch 31) (torch ++ block Solid 0 1 0)) 1 ∷ row (strongs (with RedstoneTorch 63) (torch ++ block Solid 0 1 0)) 1 ∷ [];
      wanted = 0 ∷ 15 ∷ [];
    }
    -- under a Solid, a lamp; glass, dust, a torch; a Solid's bottom slab, top slab, double slab and glass; nothing, and a Solid one cell away
    ∷ record { given = over (block Solid 0 1 0) ∷ over (block RedstoneLamp 0 1 0) ∷ []; wanted = 15 ∷ 15 ∷ [] }
    ∷ record {
      given = over (block Transparent 0 1 0) ∷ over (block RedstoneWire 0 1 0) ∷ over (block RedstoneTorch 0 1 0) ∷ [];
      wanted = 0 ∷ 0 ∷ 0 ∷ [];
    }
    ∷ record {
      given =
          over (shape 1 (block Solid 0 1 0)) ∷ over (shape 2 (block Solid 0 1 0)) ∷ over (shape 3 (block Solid 0 1 0))
          ∷ over (shape 6 (block Solid 0 1 0)) ∷ [];
      wanted = 0 ∷ 0 ∷ 15 ∷ 0 ∷ [];
    }
    ∷ record { given = over [] ∷ over (block Solid 0 2 0) ∷ over (block Solid 1 1 0) ∷ []; wanted = 0 ∷ 0 ∷ 0 ∷ [] }
    -- a torch of every shape byte; unlit; standing, on a wall, and hanging from the Solid itself
    ∷ record {
      given = tabulate 7 (λ s. over_this (shape s torch));
      wanted = 15 ∷ 15 ∷ 15 ∷ 15 ∷ 15 ∷ 15 ∷ 15 ∷ [];
    }
    ∷ record { given = over_this (unlit torch) ∷ []; wanted = 0 ∷ [] }
    ∷ record {
      given =
          over_this (support (pos 0) (negsuc 0) (pos 0) torch) ∷ over_this (support (pos 1) (pos 0) (pos 0) torch)
          ∷ over_this (support (pos 0) (pos 1) (pos 0) torch) ∷ [];
      wanted = 15 ∷ 15 ∷ 15 ∷ [];
    }
    -- of the six blocks around a torch the one above alone
    ∷ record { given = strongs valued surrounded; wanted = 0 ∷ 0 ∷ 0 ∷ 0 ∷ 0 ∷ 15 ∷ 0 ∷ [] }
    ∷ record { given = strongs bench_profile surrounded; wanted = 0 ∷ 0 ∷ 0 ∷ 0 ∷ 0 ∷ 0 ∷ 0 ∷ [] }
    -- two torches, one under a Solid and one over a Solid
    ∷ record {
      given = strongs valued (torch ++ block Solid 0 1 0 ++ block Solid 1 0 0 ++ block RedstoneTorch 1 1 0);
      wanted = 0 ∷ 15 ∷ 0 ∷ 0 ∷ [];
    }
    -- what the charged block feeds, a tick later: the comparator gives 15, the torch on it is out, the repeater is on
    ∷ record { given = devices_after 1 valued fed; wanted = 15 ∷ 1 ∷ 0 ∷ 0 ∷ 0 ∷ 1 ∷ [] }
    ∷ record { given = devices_after 1 bench_profile fed; wanted = 0 ∷ 1 ∷ 0 ∷ 1 ∷ 0 ∷ 0 ∷ [] }
    -- the clock after one, two and three ticks; without the value it stands still
    ∷ record {
      given = devices_after 1 valued clock ++ devices_after 2 valued clock ++ devices_after 3 valued clock;
      wanted = (0 ∷ 0 ∷ 0 ∷ 0 ∷ 0 ∷ []) ++ (0 ∷ 0 ∷ 1 ∷ 0 ∷ 0 ∷ []) ++ (0 ∷ 0 ∷ 0 ∷ 0 ∷ 0 ∷ []);
    }
    ∷ record { given = devices_after 1 bench_profile clock; wanted = 0 ∷ 0 ∷ 1 ∷ 0 ∷ 0 ∷ [] }
    -- 32 is number 1 for every kind but the torch
    ∷ record {
      given = tabulate 13 (λ k. answered (with k 32));
      wanted =
          number1 ∷ number1 ∷ number1 ∷ number1 ∷ 0 ∷ number1 ∷ number1 ∷ number1 ∷ number1 ∷ number1 ∷ number1 ∷ number1
          ∷ number1 ∷ [];
    }
    -- the torch's byte may reach 63, any other 31
    ∷ record {
      given =
          answered (with RedstoneTorch 63) ∷ answered (with RedstoneTorch 64) ∷ answered (with RedstoneTorch 255) ∷ answered (with Solid 31)
          ∷ answered (with Solid 63) ∷ [];
      wanted = 0 ∷ number1 ∷ number1 ∷ 0 ∷ number1 ∷ [];
    }
    ∷ []

claim : T (passes cases)
unfolding passes cases
claim = tt

-- `torch_charges`, of a table that meets every hypothesis
under_solid : Bytes
unfolding torch
under_solid = torch ++ block Solid 0 1 0

is_over : OverLitTorch valued under_solid (fresh_devices under_solid) 0 1
unfolding computing valued with torch under_solid
is_over = record { torch_inside = omega arith; inside = omega arith; is_torch = refl; is_lit = refl; is_above = refl; receives = refl }

is_valid : IsValid under_solid (fresh_devices under_solid)
unfolding computing torch under_solid
is_valid = refl

charged : row (settled valued under_solid (fresh_devices under_solid)).strong 1 ≡ 15
unfolding computing valued with
charged = torch_charges refl is_over is_valid

-- `reach_63` and `past_63`, of profiles that meet their hypotheses
reached : good_profile (with RedstoneTorch 63) ≡ good_profile01 (without_value (with RedstoneTorch 63))
unfolding with
reached = reach_63 (with RedstoneTorch 63) refl (omega arith)

passed : good_profile (with RedstoneTorch 64) ≡ false
unfolding with
passed = past_63 (with RedstoneTorch 64) (omega arith)
