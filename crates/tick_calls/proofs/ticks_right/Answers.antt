-- `tick_calls::ticks_right` meets its contract: the state that is lent is the recorded one, and the columns are blank. Assumes nothing.
use mathlib.Core.Path.{◌≡◌, sym, ◌∙◌}
use mathlib.Core.Bool.{true}
use Prim.Native.Nat.{◌≤◌}
use native.Mathlib.Omega.{arith}
use lib.ListN.{length, take}
use Rattle.records.proofs.Copies.{front_copied}
use Rattle.calls.specs.Calls.{well_formed_ticks, ticks_right}
use Rattle.calls.proofs.Lending.{lent_blank, small, ticks_form, ticks_state}
use Rattle.tick_calls.proofs.ticks_right.Goals as goal

pub slice_bounds-state-end : goal.slice_bounds-state-end
slice_bounds-state-end c =
    let formed : well_formed_ticks c.args.r.now ≡ true = sym c.well_formed_ticks.ensures ∙ c.if-well_formed_ticks.true in
    let short : length c.slice_of-before.result.now ≤ 2048 = rw c.slice_of-before.ensures (ticks_state c.args.r.now formed) in
    omega arith

pub returns-then-well_formed_ticks : goal.returns-then-well_formed_ticks
unfolding ticks_right
returns-then-well_formed_ticks c =
    let r = c.args.r.now in
    let before = c.slice_of-before.result.now in
    let formed : well_formed_ticks r ≡ true = sym c.well_formed_ticks.ensures ∙ c.if-well_formed_ticks.true in
    let s = small r 7 12 (ticks_form r formed) c.slice_of.ensures c.rows-n.ensures in
    let short : length before ≤ 2048 = rw c.slice_of-before.ensures (ticks_state r formed) in
    let blank = c.blank_columns.ensures in
    let lent : take (length before) c.copied-state.result ≡ before = rw c.copied-state.ensures (front_copied before short) in
    rw (← c.well_formed_ticks.ensures, c.if-well_formed_ticks.true) (rw (lent, c.slice_of-before.ensures, lent_blank s.few blank.signal s.is, lent_blank s.few blank.weak s.is, lent_blank s.few blank.strong s.is) at c.ticks_in.ensures)

pub returns : goal.returns
unfolding ticks_right
returns c = rw (← c.well_formed_ticks.ensures, c.if-well_formed_ticks.false)
