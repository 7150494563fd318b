-- Answers of `spread::spread`.
use mathlib.Core.Path.{◌∙◌}
use native.Mathlib.Omega.{arith}
use Rattle.spread.proofs.Spreads.{spread_none, spread_more, spread_pass, spread_all}
use Rattle.spread.proofs.spread.Goals as goal
use Rattle.spread.proofs.spread.Goals.{then-loss-levels, else-loss-levels}

pub loop-j-init : goal.loop-j-init
loop-j-init c = spread_none

pub loop-j-preserved : goal.loop-j-preserved
loop-j-preserved c =
    let l = c.loop-j in
    elim c.if-loss-levels.branch [
      | then-loss-levels w ↦ spread_more l.invariant (omega arith) (w.out-is ∙ w.spread_from.ensures)
      | else-loss-levels w ↦ rw w.out-is (spread_pass l.invariant (omega arith) w.if-loss-levels.false)
    ]

pub returns : goal.returns
returns c = spread_all c.loop-j.invariant (omega arith)
