-- Document 02, Change 8, computed: what redrawing twice leaves, and a redraw and a switch in either order, of tables that the redraw changes; and that the
-- columns of the switch do differ.
-- Assumes nothing.
use mathlib.Core.Path.{◌≡◌, refl}
use mathlib.Core.List.{List, [], ◌∷◌, ◌++◌}
use Prim.Native.Nat.{ℕ, ◌<◌}
use native.Mathlib.Omega.{arith}
use lib.Dec.{T}
use lib.ListN.{set, replicate}
use lib.IntN.{pos}
use Rattle.columns.specs.Column.{Bytes, Column}
use Rattle.blocks.specs.Kind.{Solid, RedstoneWire, Lever}
use Rattle.blocks.specs.Profile.{bench_profile}
use Rattle.places.specs.declared.Pos.{Pos}
use Rattle.places.specs.Places.{cell}
use Rattle.redrawing.specs.Drawn.{update_wire_shapes}
use Rattle.switching.specs.Switch.{switched}
use Rattle.electrical.specs.Answer.{settled}
use Rattle.updates.specs.State.{fresh_devices}
use Rattle.updates.specs.Calls.{Switches}
use Rattle.either_order.specs.Orders.{SwitchesTo, RedrawThenSwitch, SwitchThenRedraw}
use Rattle.either_order.proofs.Calls.{same_table_done}
use Rattle.cases.proofs.Computing.{computing}
use Rattle.cases.proofs.Build.{block, powered}
use Rattle.cases.proofs.Cases.{Case, passes}

redrawn : Bytes → Bytes
unfolding computing
redrawn t = update_wire_shapes bench_profile t

turned : Bytes → Pos → ℕ → Bytes
unfolding computing
turned t q power = switched t q power

-- the weak column of a table with its fresh devices
weak : Bytes → Column
unfolding computing
weak t = (settled bench_profile t (fresh_devices t)).weak

-- a dust with these arms stored, by bytes 23 to 27
stored : ℕ → ℕ → ℕ → ℕ → ℕ → Bytes → Bytes
stored has north east south west r = set (set (set (set (set r 23 has) 24 north) 25 east) 26 south) 27 west

-- a lever, dust beside it with these arms, and a Solid across
beside : Bytes → Bytes → Bytes
beside lever dust = lever ++ dust ++ block Solid 2 0 0

off : Bytes
off = block Lever 0 0 0

on : Bytes
on = powered (block Lever 0 0 0)

dust : Bytes
dust = block RedstoneWire 1 0 0

-- arms to the lever and across: the one that is inferred, and its opposite
straight : Bytes → Bytes
unfolding stored
straight r = stored 1 0 2 0 2 r

-- the lever, the dust, and a place over the lever
at_lever : Pos
at_lever = cell (pos 0) (pos 0) (pos 0)

at_dust : Pos
at_dust = cell (pos 1) (pos 0) (pos 0)

at_nothing : Pos
at_nothing = cell (pos 0) (pos 1) (pos 0)

-- switched and then redrawn, and redrawn and then switched
in_either_order : Pos → ℕ → Bytes → Bytes
unfolding redrawn turned
in_either_order q power t = redrawn (turned t q power) ++ turned (redrawn t) q power

cases : List Case
unfolding redrawn turned weak stored beside off on dust straight at_lever at_dust at_nothing in_either_order
cases =
    -- a lone arm gains its opposite, and keeps it when redrawn again
    record { given = redrawn (beside off dust) ++ redrawn (redrawn (beside off dust)); wanted = beside off (straight dust) ++ beside off (straight dust) }
    -- whatever arms are stored: the inferred one alone, wrong ones, all as None, and bytes that byte 23 does not give
    ∷ record {
      given =
          redrawn (beside off (stored 1 0 0 0 2 dust)) ++ redrawn (beside off (stored 1 3 0 2 1 dust)) ++ redrawn (beside off (stored 1 1 1 1 1 dust))
          ++ redrawn (beside off (stored 0 3 3 3 3 dust));
      wanted = beside off (straight dust) ++ beside off (straight dust) ++ beside off (straight dust) ++ beside off (straight dust);
    }
    -- the lever switched on, and off; any number but 0 is on
    ∷ record {
      given = in_either_order at_lever 1 (beside off dust) ++ in_either_order at_lever 15 (beside off dust) ++ in_either_order at_lever 0 (beside on dust);
      wanted =
          beside on (straight dust) ++ beside on (straight dust) ++ beside on (straight dust) ++ beside on (straight dust) ++ beside (set off 14 1) (straight dust)
          ++ beside (set off 14 1) (straight dust);
    }
    -- the dust itself, and an empty place
    ∷ record {
      given = in_either_order at_dust 1 (beside off (stored 1 0 0 0 2 dust)) ++ in_either_order at_nothing 1 (beside off dust);
      wanted =
          beside off (straight (powered dust)) ++ beside off (straight (powered dust)) ++ beside off (straight dust) ++ beside off (straight dust);
    }
    -- what the switch writes to its weak column does depend on the order: the Solid across has power by the opposite arm alone
    ∷ record { given = weak (turned (beside off dust) at_lever 1) ++ weak (turned (redrawn (beside off dust)) at_lever 1); wanted = 0 ∷ 0 ∷ 0 ∷ 0 ∷ 0 ∷ 15 ∷ [] }
    ∷ []

claim : T (passes cases)
unfolding passes cases
claim = tt

-- ---- the calls, on such a table: none is refused, each changes it, and the switch answers other rounds, and writes other power, after the redraw than
-- before it

-- no device of these rows is on
rest : Bytes
rest = replicate 48 0

-- what is in each column before a call
old : Column
old = 99 ∷ 99 ∷ 99 ∷ []

table : Bytes
unfolding beside off dust
table = beside off dust

after : Bytes
unfolding beside on straight stored dust
after = beside on (straight dust)

-- a call that switches the lever on, with its three columns
switching : {t u : Bytes} {signal weak strong : Column} {r : ℕ} → Switches bench_profile t u rest rest at_lever 1 old old old signal weak strong r
    → SwitchesTo bench_profile t rest u at_lever 1 3 3 3 r
unfolding old
switching {signal = signal} {weak = weak} {strong = strong} call =
    record {
      state' = rest;
      signal = old;
      weak = old;
      strong = old;
      signal' = signal;
      weak' = weak;
      strong' = strong;
      call = call;
      signal_long = refl;
      weak_long = refl;
      strong_long = refl;
    }

one : RedrawThenSwitch bench_profile table rest after at_lever 1 3 3 3 0 3
unfolding computing table after rest old beside off on straight stored dust at_lever
one =
    record {
      between = beside off (straight dust);
      redraws = record { answer = refl; table = refl };
      switches = switching {signal = 15 ∷ 15 ∷ 0 ∷ []} {weak = 0 ∷ 0 ∷ 15 ∷ []} {strong = 0 ∷ 0 ∷ 0 ∷ []}
          (record { answer = refl; table = refl; state = refl; columns = record { signals = refl; weaks = refl; strongs = refl } });
    }

other : SwitchThenRedraw bench_profile table rest after at_lever 1 3 3 3 0 2
unfolding computing table after rest old beside off on straight stored dust at_lever
other =
    record {
      between = beside on dust;
      switches = switching {signal = 15 ∷ 15 ∷ 0 ∷ []} {weak = 0 ∷ 0 ∷ 0 ∷ []} {strong = 0 ∷ 0 ∷ 0 ∷ []}
          (record { answer = refl; table = refl; state = refl; columns = record { signals = refl; weaks = refl; strongs = refl } });
      redraws = record { answer = refl; table = refl };
    }

-- any two such calls, with a state and columns of their own, leave this table
left : {st u : Bytes} {signal weak strong a r : ℕ}
    → SwitchThenRedraw bench_profile table st u at_lever 1 signal weak strong a r → r < 65536 → after ≡ u
left call done = same_table_done one call (omega arith) done
