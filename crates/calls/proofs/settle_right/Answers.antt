-- `calls::settle_right` meets its contract: the columns that are lent are blank, and the fronts that are compared are what the call left.
-- Assumes nothing.
use mathlib.Core.Path.{sym, ◌∙◌}
use Rattle.calls.specs.Calls.{settle_right}
use Rattle.calls.proofs.Agreeing.{settle_agrees}
use Rattle.calls.proofs.Lending.{lent_blank, given_back, small}
use Rattle.calls.proofs.settle_right.Goals as goal

pub returns-then-well_formed : goal.returns-then-well_formed
unfolding settle_right
returns-then-well_formed c =
    let r = c.args.r.now in
    let s = small r 6 8 (sym c.well_formed-2.ensures ∙ c.if-well_formed.true) c.slice_of.ensures c.rows-n.ensures in
    let blank = c.blank_columns.ensures in
    let answered = c.redstone_settle-answered in
    let settles = rw (c.slice_of-then-well_formed.ensures, c.slice_of-then-well_formed-2.ensures, c.slice_of-then-well_formed-3.ensures, c.number.ensures) at answered.ensures in
    let agrees = rw (lent_blank s.few blank.signal s.is, lent_blank s.few blank.weak s.is, lent_blank s.few blank.strong s.is) at (settle_agrees r settles) in
    rw (
      ← c.well_formed-2.ensures,
      c.if-well_formed.true,
      c.number-then-well_formed.ensures,
      c.columns_agree.ensures,
      given_back s.few blank.signal answered.new.signal _ answered.auto.signal,
      given_back s.few blank.weak answered.new.weak _ answered.auto.weak,
      given_back s.few blank.strong answered.new.strong _ answered.auto.strong,
    ) agrees

pub returns : goal.returns
unfolding settle_right
returns c = rw (← c.well_formed-2.ensures, c.if-well_formed.false)
