-- `answers::find_agrees` meets its contract: a coordinate that is handed on is read back from its bits. Assumes nothing.
use mir.Syntax.{w32}
use mir.Val.{SFits}
use borrow.Author.Rules.{rules}
use Rattle.places.proofs.Signs.{back32}
use Rattle.answers.specs.Answers.{find_agrees}
use Rattle.answers.proofs.find_agrees.Goals as goal

pub returns : goal.returns
unfolding find_agrees
returns c = let f = c in
    let a = f.args in
    let fx : SFits w32 a.q.x = search rules in
    let fy : SFits w32 a.q.y = search rules in
    let fz : SFits w32 a.q.z = search rules in
    rw (f.probe_find.ensures, c.probe_kind_at.ensures, c.from.ensures) (simp back32)
