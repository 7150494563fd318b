-- `tick_calls::switch_right` meets its contract: the table that is lent is the recorded one, and the columns are blank. Assumes nothing.
use mathlib.Core.Path.{◌≡◌, sym, ◌∙◌}
use Prim.Native.Nat.{◌≤◌}
use native.Mathlib.Omega.{arith}
use lib.ListN.{length, take}
use Rattle.records.proofs.Copies.{front_copied}
use Rattle.calls.specs.Calls.{switch_right}
use Rattle.calls.proofs.Lending.{lent_blank, small}
use Rattle.tick_calls.proofs.switch_right.Goals as goal

pub slice_bounds-table-end : goal.slice_bounds-table-end
slice_bounds-table-end c =
    let s = small c.args.r.now 7 20 (sym c.well_formed-2.ensures ∙ c.if-well_formed.true) c.slice_of-before.ensures c.rows-n.ensures in
    let short : length c.slice_of-before.result.now ≤ 2048 = rw c.slice_of-before.ensures s.table in
    omega arith

pub returns-then-well_formed : goal.returns-then-well_formed
unfolding switch_right
returns-then-well_formed c =
    let before = c.slice_of-before.result.now in
    let s = small c.args.r.now 7 20 (sym c.well_formed-2.ensures ∙ c.if-well_formed.true) c.slice_of-before.ensures c.rows-n.ensures in
    let short : length before ≤ 2048 = rw c.slice_of-before.ensures s.table in
    let blank = c.blank_columns.ensures in
    let lent : take (length before) c.copied-table.result ≡ before = rw c.copied-table.ensures (front_copied before short) in
    rw (← c.well_formed-2.ensures, c.if-well_formed.true) (rw (lent, c.slice_of-before.ensures, lent_blank s.few blank.signal s.is, lent_blank s.few blank.weak s.is, lent_blank s.few blank.strong s.is) at c.switch_in.ensures)

pub returns : goal.returns
unfolding switch_right
returns c = rw (← c.well_formed-2.ensures, c.if-well_formed.false)
