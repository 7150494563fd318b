-- `wire_answers::transfer_agrees` meets its contract: a coordinate that is handed on is read back from its bits. Assumes nothing.
use mir.Syntax.{w32}
use mir.Val.{SFits}
use borrow.Author.Rules.{rules}
use Rattle.places.proofs.Signs.{back32}
use Rattle.wire_answers.specs.Answers.{transfer_agrees}
use Rattle.wire_answers.proofs.transfer_agrees.Goals as goal

pub returns : goal.returns
unfolding transfer_agrees
returns c = let a = c.args in
    let fx : SFits w32 a.q.x = search rules in
    let fy : SFits w32 a.q.y = search rules in
    let fz : SFits w32 a.q.z = search rules in
    let gx : SFits w32 a.sink.x = search rules in
    let gy : SFits w32 a.sink.y = search rules in
    let gz : SFits w32 a.sink.z = search rules in
    rw (c.probe_transfer.ensures, c.from.ensures) (simp back32)
