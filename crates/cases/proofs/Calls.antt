-- Calls on a table, each with every byte that it leaves: what demand 3 says of settle, and what the answers tell. Those of Change 9's
-- calls stand in Feeders.
-- Assumes nothing.
use mathlib.Core.Path.{◌≡◌, refl}
use mathlib.Core.List.{[], ◌∷◌, ◌++◌}
use Prim.Native.Nat.{◌/◌, ◌≤◌, max}
use native.Mathlib.Omega.{arith}
use lib.ListN.{length, set, replicate}
use lib.IntN.{pos}
use Rattle.columns.specs.Column.{Bytes, Column, at_front}
use Rattle.network.specs.Network.{Breaks}
use Rattle.blocks.specs.Kind.{Solid, RedstoneWire, Comparator}
use Rattle.blocks.specs.Profile.{bench_profile}
use Rattle.places.specs.Places.{East, West, cell}
use Rattle.refusals.specs.Check.{refused, check_input}
use Rattle.refusals.specs.Answers.{decode}
use Rattle.refusals.proofs.Tells.{told_refused}
use Rattle.supports.specs.Supports.{support_issues, Listed}
use Rattle.supports.proofs.Answers.{listed_tells}
use Rattle.merge.specs.Merge.{check_merge, Merges}
use Rattle.merge.proofs.Answers.{merge_tells}
use Rattle.clear.specs.Clear.{check_clear, Clears}
use Rattle.clear.proofs.Answers.{clear_tells}
use Rattle.switching.specs.Switch.{switched}
use Rattle.redraw.specs.Redraw.{Redraws}
use Rattle.redraw.proofs.Answers.{redraw_tells}
use Rattle.emitted.specs.Emitted.{emitted}
use Rattle.edges.specs.Edges.{network_of}
use Rattle.electrical.specs.Answer.{check_settle, SettledTo, Unchanged}
use Rattle.electrical.specs.Join.{larger_of, Call, JoinedCalls}
use Rattle.electrical.proofs.Demand.{settle_tells, written_join, never_answers_8, settles_from_17, others_break}
use Rattle.updates.specs.State.{devices_of, fresh_devices, fresh_state}
use Rattle.updates.specs.Calls.{check_tick, Fresh, Ticks, Switches}
use Rattle.updates.proofs.Answers.{fresh_tells, ticks_tell, switch_tells}
use Rattle.cases.proofs.Computing.{computing}
use Rattle.cases.proofs.Build.{block, facing}

-- two comparators that give strong power to a Solid between them, and dust on it
fed : Bytes
fed =
    facing East (block Comparator 0 0 0) ++ block Solid 1 0 0 ++ block RedstoneWire 1 1 0 ++ facing West (block Comparator 2 0 0)

-- ---- a device column, another, and their join

one : Column
one = 9 ∷ 0 ∷ 0 ∷ 3 ∷ []

other : Column
other = 4 ∷ 0 ∷ 0 ∷ 12 ∷ []

-- what is in each output column before a call
old : Column
old = 99 ∷ 99 ∷ 99 ∷ 99 ∷ []

first : Call bench_profile fed one
unfolding computing fed one old
first =
    record {
      limit = 3;
      signal = old;
      weak = old;
      strong = old;
      signal' = 9 ∷ 0 ∷ 9 ∷ 3 ∷ [];
      weak' = 0 ∷ 9 ∷ 0 ∷ 0 ∷ [];
      strong' = 0 ∷ 9 ∷ 0 ∷ 0 ∷ [];
      answer = 3;
      whole = record { answer = refl; columns = record { signals = refl; weaks = refl; strongs = refl } };
    }

second : Call bench_profile fed other
unfolding computing fed other old
second =
    record {
      limit = 17;
      signal = old;
      weak = old;
      strong = old;
      signal' = 4 ∷ 0 ∷ 12 ∷ 12 ∷ [];
      weak' = 0 ∷ 12 ∷ 0 ∷ 0 ∷ [];
      strong' = 0 ∷ 12 ∷ 0 ∷ 0 ∷ [];
      answer = 3;
      whole = record { answer = refl; columns = record { signals = refl; weaks = refl; strongs = refl } };
    }

third : Call bench_profile fed (larger_of one other)
unfolding computing fed one other old larger_of
third =
    record {
      limit = 128;
      signal = old;
      weak = old;
      strong = old;
      signal' = 9 ∷ 0 ∷ 12 ∷ 12 ∷ [];
      weak' = 0 ∷ 12 ∷ 0 ∷ 0 ∷ [];
      strong' = 0 ∷ 12 ∷ 0 ∷ 0 ∷ [];
      answer = 3;
      whole = record { answer = refl; columns = record { signals = refl; weaks = refl; strongs = refl } };
    }

both_rules : JoinedCalls first second third
unfolding first second third
both_rules = written_join first second third (omega arith) (omega arith) (omega arith)

-- the signal of the dust, and the strong power of the Solid
dust_joined : max 9 12 ≡ 12
unfolding first second third
dust_joined = both_rules.signals.at 2

solid_joined : max 9 12 ≡ 12
unfolding first second third
solid_joined = both_rules.strongs.at 1

-- with a limit from 17 up no call is refused that has a valid column of an accepted table
second_settled : SettledTo bench_profile fed other second.signal' second.weak' second.strong' second.answer
unfolding computing fed other old second
second_settled = settles_from_17 second.whole (omega arith) refl refl refl

-- level 14 breaks the definition at the dust
fourteen_breaks : Breaks (network_of bench_profile fed) (emitted fed one) (λ i. 14)
unfolding computing fed one
fourteen_breaks = others_break bench_profile fed one (λ i. 14) 2 (omega arith) refl (λ e. omega arith)

-- ---- refused calls

-- the second row is not after the first: number 5, at row 1
exchanged : Bytes
exchanged = block Solid 1 0 0 ++ block Solid 0 0 0

misplaced : Call bench_profile exchanged (0 ∷ 0 ∷ [])
unfolding computing exchanged
misplaced =
    record {
      limit = 128;
      signal = 99 ∷ 99 ∷ [];
      weak = 99 ∷ 99 ∷ [];
      strong = 99 ∷ 99 ∷ [];
      signal' = 99 ∷ 99 ∷ [];
      weak' = 99 ∷ 99 ∷ [];
      strong' = 99 ∷ 99 ∷ [];
      answer = 327681;
      whole = record { answer = refl; columns = record { signals = refl; weaks = refl; strongs = refl } };
    }

misplaced_decoded : decode 327681 ≡ refused 5 1
unfolding decode
misplaced_decoded = refl

misplaced_told : check_settle bench_profile exchanged (0 ∷ 0 ∷ []) 128 2 2 2 ≡ refused 5 1
unfolding misplaced
misplaced_told = told_refused (settle_tells misplaced.whole) (omega arith)

misplaced_unchanged : Unchanged (99 ∷ 99 ∷ []) (99 ∷ 99 ∷ []) (99 ∷ 99 ∷ []) misplaced.signal' misplaced.weak' misplaced.strong'
unfolding misplaced
misplaced_unchanged = (settle_tells misplaced.whole).kept (omega arith)

misplaced_not_8 : ¬ (misplaced.answer / 65536 ≡ 8)
unfolding misplaced
misplaced_not_8 = never_answers_8 misplaced.whole (omega arith)

-- ---- the other calls

-- nothing is on: no level, and no byte of the state
none : Column
none = 0 ∷ 0 ∷ 0 ∷ 0 ∷ []

idle : Bytes
idle = replicate 64 0

fresh_fed : Fresh bench_profile fed (replicate 64 99) idle old old old none none none 2
unfolding computing fed old none idle
fresh_fed = record { answer = refl; state = refl; columns = record { signals = refl; weaks = refl; strongs = refl } }

fresh_done : SettledTo bench_profile fed (fresh_devices fed) none none none 2 × (idle ≡ fresh_state bench_profile fed)
fresh_done = (fresh_tells fresh_fed).done (omega arith)

-- a tick past the last number of the clock: number 9
ticks_fed : Ticks bench_profile fed idle idle 4294967295 1 old old old old old old 589824
unfolding computing fed old idle
ticks_fed = record { answer = refl; state = refl; columns = record { signals = refl; weaks = refl; strongs = refl } }

tick_refused : check_tick bench_profile fed idle 4294967295 1 4 4 4 ≡ refused 9 0
unfolding old
tick_refused = told_refused (ticks_tell ticks_fed) (omega arith)

-- the dust switched on, which changes byte 14 of row 2 and no level
switched_fed : Bytes
unfolding fed
switched_fed = set fed 78 2

switches_fed : Switches bench_profile fed switched_fed idle idle (cell (pos 1) (pos 1) (pos 0)) 1 old old old none none none 2
unfolding computing fed old none idle switched_fed
switches_fed = record { answer = refl; table = refl; state = refl; columns = record { signals = refl; weaks = refl; strongs = refl } }

switch_done : SettledTo bench_profile (switched fed (cell (pos 1) (pos 1) (pos 0)) 1) (devices_of fed idle) none none none 2
    × (switched_fed ≡ switched fed (cell (pos 1) (pos 1) (pos 0)) 1)
switch_done = ((switch_tells switches_fed).done (omega arith)).0

-- the dust and the comparators lack a support
listed_fed : Listed bench_profile fed old (0 ∷ 2 ∷ 3 ∷ 99 ∷ []) 3
unfolding computing fed old
listed_fed = record { answer = refl; entries = refl }

list_done : (3 ≡ length (support_issues bench_profile fed)) × (3 ≤ 1024) × ((0 ∷ 2 ∷ 3 ∷ 99 ∷ []) ≡ at_front (support_issues bench_profile fed) old)
list_done = (listed_tells listed_fed).done (omega arith)

redraws_exchanged : Redraws bench_profile exchanged exchanged 327681
unfolding computing exchanged
redraws_exchanged = record { answer = refl; table = refl }

redraw_refused : check_input bench_profile exchanged ≡ refused 5 1
redraw_refused = told_refused (redraw_tells redraws_exchanged) (omega arith)

-- the table merged with itself, to an output of no byte: number 7
merges_fed : Merges fed fed (cell (pos 0) (pos 0) (pos 0)) [] [] 458752
unfolding computing fed
merges_fed = record { answer = refl; bytes = refl }

merge_refused : check_merge fed fed (cell (pos 0) (pos 0) (pos 0)) 0 ≡ refused 7 0
merge_refused = told_refused (merge_tells fed fed (cell (pos 0) (pos 0) (pos 0)) [] merges_fed) (omega arith)

-- the table cleared, to an output that has no room: number 7
clears_fed : Clears bench_profile fed [] [] [] [] 458752
unfolding computing fed
clears_fed = record { answer = refl; bytes = refl; entries = refl }

clear_refused : check_clear bench_profile fed 0 0 ≡ refused 7 0
clear_refused = told_refused (clear_tells bench_profile fed [] [] clears_fed) (omega arith)
