-- Answers of `keys::pass::pass_levels`.
use mathlib.Core.Path.{◌≡◌}
use Prim.Native.Nat.{◌-◌, ◌*◌}
use native.Mathlib.Omega.{arith}
use Rattle.columns.specs.Column.{row}
use Rattle.keys.proofs.Passing.{given_start, given_kept}
use Rattle.keys.proofs.pass.pass_levels.Goals as goal

pub loop-level-init : goal.loop-level-init
loop-level-init c = (omega arith, given_start _ _ _ c.requires.0 c.requires.1)

pub loop-level-preserved : goal.loop-level-preserved
loop-level-preserved c =
    let fewer : 16 * c.loop-level.level - 16 ≡ 16 * (c.loop-level.level - 1) = omega arith in
    (omega arith, rw fewer at (c.pass_level.ensures.next (row c.args.keys.now) c.loop-level.invariant.1))

pub returns : goal.returns
returns c =
    let last : c.loop-level.level ≡ 1 = omega (arith, c.loop-level.invariant.0) in
    given_kept _ _ _ _ (rw last at c.loop-level.invariant.1)
