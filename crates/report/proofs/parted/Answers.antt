-- `report::parted` meets its contract: the profile is no longer than the input. Assumes nothing.
use mathlib.Core.Path.{◌≡◌}
use Prim.Native.Nat.{◌-◌}
use native.Mathlib.Nat.{sub-zero}
use native.Mathlib.Omega.{arith}
use lib.ListN.{length, take, length-drop}
use lib.Seq.{take_all}
use Rattle.report.specs.Text.{table_of, profile_bytes}
use Rattle.report.proofs.Run.{profile_fits}
use Rattle.report.proofs.parted.Goals as goal

pub slice_bounds-checked-end : goal.slice_bounds-checked-end
slice_bounds-checked-end c = rw c.profile_bytes-end.ensures (profile_fits c.args.input.now c.requires.0)

pub slice_bounds-checked-count-2 : goal.slice_bounds-checked-count-2
slice_bounds-checked-count-2 c = rw c.profile_bytes-end.ensures (profile_fits c.args.input.now c.requires.0)

pub slice_bounds-checked-start-2 : goal.slice_bounds-checked-start-2
slice_bounds-checked-start-2 c = rw c.profile_bytes-end.ensures (profile_fits c.args.input.now c.requires.0)

pub returns : goal.returns
returns c = let put = c in
    let told = put in
    let input = told.args.input.now in
    let rest : take (length input - profile_bytes input) (table_of input) ≡ table_of input = take_all (length input - profile_bytes input) (table_of input) (rw length-drop (omega arith)) in
    rw (told.profile_bytes-end.ensures, sub-zero, rest) at put.checked.ensures
