-- `answers::offset_agrees` meets its contract. Assumes nothing.
use mir.Syntax.{w32}
use mir.Val.{SFits}
use borrow.Author.Rules.{rules}
use Rattle.places.proofs.Signs.{back32}
use Rattle.answers.specs.Answers.{offset_agrees}
use Rattle.answers.proofs.offset_agrees.Goals as goal

pub returns : goal.returns
unfolding offset_agrees
returns c = let a = c.args in
    let fx : SFits w32 a.d.x = search rules in
    let fy : SFits w32 a.d.y = search rules in
    let fz : SFits w32 a.d.z = search rules in
    rw (c.same.ensures, c.offset.ensures) (simp back32)
