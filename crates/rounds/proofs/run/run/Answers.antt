-- Answers of `rounds::run::run`.
use mathlib.Core.Path.{◌≡◌}
use Prim.Native.Nat.{min}
use native.Mathlib.Omega.{arith}
use borrow.Author.Rules.{rules}
use Rattle.rounds.proofs.Lending.{front}
use Rattle.rounds.proofs.Rounds.{turning_start, turning_stops, turning_on, ran_unsettled}
use Rattle.rounds.proofs.run.run.Goals as goal

pub loop-left-init : goal.loop-left-init
loop-left-init c =
    let most : c.min-left.result ≡ min 17 c.args.limit = search rules in
    (turning_start c.args.network.shaped (front c.args.network.shaped) c.requires.s1_len c.start.ensures.s0_after c.start.ensures.w0_after, omega (arith, most))

pub returns-then-answered : goal.returns-then-answered
returns-then-answered c =
    turning_stops c.loop-left.invariant.0 c.turn-answered.ensures (omega (arith, c.loop-left.invariant.1)) c.if-answered.true

pub loop-left-preserved : goal.loop-left-preserved
loop-left-preserved c =
    (turning_on c.loop-left.invariant.0 c.turn-answered.ensures c.if-answered.false c.advance.ensures.s0_after c.advance.ensures.w0_after, omega (arith, c.loop-left.invariant.1))

pub returns : goal.returns
returns c = ran_unsettled c.loop-left.invariant.0.unanswered (omega (arith, c.loop-left.invariant.1))
