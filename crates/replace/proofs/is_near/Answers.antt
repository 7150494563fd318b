-- `replace::is_near` meets its contract. Assumes nothing.
use borrow.Author.Rules.{rules}
use mir.Syntax.{w32}
use mir.Val.{SFits}
use Rattle.places.proofs.Signs.{back32}
use Rattle.feeding.specs.Replaced.{is_near}
use Rattle.replace.proofs.is_near.Goals as goal

pub returns : goal.returns
unfolding is_near
returns c = let s = c in
    let px : SFits w32 s.args.p.x = search rules in
    let py : SFits w32 s.args.p.y = search rules in
    let pz : SFits w32 s.args.p.z = search rules in
    let qx : SFits w32 s.args.q.x = search rules in
    let qy : SFits w32 s.args.q.y = search rules in
    let qz : SFits w32 s.args.q.z = search rules in
    rw (c.at_most_two_apart.ensures, c.at_most_two_apart-2.ensures, c.at_most_two_apart-3.ensures)
    (simp back32)
