-- Answers of `keys::rounds::last_of`.
use mathlib.Core.Path.{◌≡◌, sym, ◌∙◌}
use Prim.Native.Nat.{max}
use native.Mathlib.Omega.{arith}
use borrow.Author.Rules.{rules}
use lib.ListN.{length}
use Rattle.network.specs.Laws.Top.{top_none, top_more}
use Rattle.keys.specs.Rounds.{last_of}
use Rattle.keys.proofs.rounds.last_of.Goals as goal

pub loop-key-init : goal.loop-key-init
loop-key-init c = sym (top_none _)

pub loop-key-preserved : goal.loop-key-preserved
loop-key-preserved c =
    let more : c.larger-last.result ≡ max c.loop-key.last c.round_of.result = search rules in
    more ∙ rw (c.loop-key.invariant, c.round_of.ensures) (sym (top_more _ _))

pub returns : goal.returns
unfolding last_of
returns c = let full : c.loop-key.key-index ≡ length c.args.keys.now = omega arith in rw full at c.loop-key.invariant
