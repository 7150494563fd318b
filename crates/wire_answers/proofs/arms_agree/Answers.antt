-- `wire_answers::arms_agree` meets its contract: a coordinate that is handed on is read back from its bits. Assumes nothing.
use mir.Syntax.{w32}
use mir.Val.{SFits}
use borrow.Author.Rules.{rules}
use Rattle.places.proofs.Signs.{back32}
use Rattle.wire_answers.specs.Answers.{arms_agree}
use Rattle.wire_answers.proofs.arms_agree.Goals as goal

pub returns : goal.returns
unfolding arms_agree
returns c = let inferred = c in
    let a = inferred.args in
    let fx : SFits w32 a.q.x = search rules in
    let fy : SFits w32 a.q.y = search rules in
    let fz : SFits w32 a.q.z = search rules in
    rw (inferred.probe_infer.ensures, c.probe_resolved.ensures, c.from-f.ensures, c.from.ensures, c.from-2.ensures) (simp back32)
