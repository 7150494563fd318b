-- `calls::fresh_right` meets its contract: the buffers that are lent are blank, and the fronts that are compared are what the call left.
-- Assumes nothing.
use mathlib.Core.Path.{refl, sym, ap, ◌∙◌}
use Prim.Native.Nat.{◌*◌, ◌≤◌}
use native.Mathlib.Omega.{arith}
use Rattle.calls.specs.Calls.{fresh_right}
use Rattle.calls.proofs.Agreeing.{fresh_agrees}
use Rattle.calls.proofs.Lending.{lent_blank, given_back, small}
use Rattle.calls.proofs.fresh_right.Goals as goal

pub returns-then-well_formed : goal.returns-then-well_formed
unfolding fresh_right
returns-then-well_formed c =
    let r = c.args.r.now in
    let s = small r 6 4 (sym c.well_formed-2.ensures ∙ c.if-well_formed.true) c.slice_of.ensures c.rows-n.ensures in
    let state : c.rows-n.result * 16 ≤ 1024 = omega (arith, s.few) in
    let blank = c.blank_columns.ensures in
    let answered = c.redstone_fresh-answered in
    let fresh = rw (c.slice_of-then-well_formed.ensures, c.slice_of-then-well_formed-2.ensures) at answered.ensures in
    let agrees =
    rw (
      lent_blank state refl (ap (λ k. k * 16) s.is),
      lent_blank s.few blank.signal s.is,
      lent_blank s.few blank.weak s.is,
      lent_blank s.few blank.strong s.is,
    ) at (fresh_agrees r fresh) in
    rw (
      ← c.well_formed-2.ensures,
      c.if-well_formed.true,
      c.number.ensures,
      c.same.ensures,
      c.slice_of-then-well_formed-3.ensures,
      c.columns_agree.ensures,
      given_back state refl answered.new.state _ answered.auto.state,
      given_back s.few blank.signal answered.new.signal _ answered.auto.signal,
      given_back s.few blank.weak answered.new.weak _ answered.auto.weak,
      given_back s.few blank.strong answered.new.strong _ answered.auto.strong,
    ) agrees

pub returns : goal.returns
unfolding fresh_right
returns c = rw (← c.well_formed-2.ensures, c.if-well_formed.false)
