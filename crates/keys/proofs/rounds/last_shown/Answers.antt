-- Answers of `keys::rounds::last_shown`.
use mathlib.Core.Path.{◌≡◌, sym, ◌∙◌}
use Prim.Native.Nat.{max}
use native.Mathlib.Omega.{arith}
use borrow.Author.Rules.{rules}
use lib.ListN.{length}
use Rattle.network.specs.Laws.Top.{top_none, top_more}
use Rattle.keys.specs.Rounds.{last_shown}
use Rattle.keys.proofs.rounds.last_shown.Goals as goal

pub loop-i-init : goal.loop-i-init
loop-i-init c = sym (top_none _)

pub loop-i-preserved : goal.loop-i-preserved
loop-i-preserved c =
    let more : c.larger-last.result ≡ max c.loop-i.last c.shown.result = search rules in
    more ∙ rw (c.loop-i.invariant, c.shown.ensures) (sym (top_more _ _))

pub returns : goal.returns
unfolding last_shown
returns c = let full : c.loop-i.i ≡ length c.args.under.now = omega arith in rw full at c.loop-i.invariant
