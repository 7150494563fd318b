-- `wire::transfer::dust_transfer` meets its contract, by what the two look-ups find. Each loop's invariant: nothing is found yet, and the answer is that of the facings and heights that are left. Assumes nothing.
use Rattle.std.proofs.Common.{None}
use mathlib.Core.Path.{◌≡◌}
use Prim.Native.Nat.{◌+◌, ◌-◌, ◌≤◌}
use Rattle.arms.specs.Arms.{arm_of}
use Rattle.wire.proofs.Turns.{from_facing, from_step}
use Rattle.wire.proofs.transfer.dust_transfer.Given as goal

abbrev pub invariant-heights : goal.invariant-heights
invariant-heights l = (l.height ≤ 3) × (1 ≤ l.facing) × (l.facing ≤ 4) × (l.found ≡ None)
    × (from_facing (arm_of l.profile l.table) l.profile l.table l.j l.i 1 ≡ from_step (arm_of l.profile l.table) l.profile l.table l.j l.i l.facing (3 - l.height) l.height (from_facing (arm_of l.profile l.table) l.profile l.table l.j l.i (l.facing + 1)))

abbrev pub decreases-heights : goal.decreases-heights
decreases-heights l = 3 - l.height

abbrev pub invariant-facings : goal.invariant-facings
invariant-facings l = (1 ≤ l.facing) × (l.facing ≤ 5) × (l.found ≡ None)
    × (from_facing (arm_of l.profile l.table) l.profile l.table l.j l.i 1 ≡ from_facing (arm_of l.profile l.table) l.profile l.table l.j l.i l.facing)

abbrev pub decreases-facings : goal.decreases-facings
decreases-facings l = 5 - l.facing
