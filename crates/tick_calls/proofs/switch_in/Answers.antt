-- `tick_calls::switch_in` meets its contract: a coordinate that is handed on is read back from its bits. Assumes nothing.
use mir.Syntax.{w32}
use mir.Val.{SFits}
use Rattle.places.proofs.Signs.{back32}
use Rattle.calls.proofs.Agreeing.{switch_agrees}
use borrow.Author.Rules.{rules}
use Rattle.tick_calls.proofs.switch_in.Goals as goal

pub returns : goal.returns
returns c = let compared = c in
    let numbered = compared in
    let called = numbered in
    let read = called in
    let place = read in
    let q = place.pos_at-q.result in
    let fit : SFits w32 q.x × SFits w32 q.y × SFits w32 q.z = (search rules, search rules, search rules) in
    let switches = rw (read.slice_of.ensures, read.slice_of-2.ensures, read.number.ensures, back32 q.x fit.0, back32 q.y fit.1, back32 q.z fit.2, place.pos_at-q.ensures, place.after.ensures) at called.redstone_switch-answered.ensures in
    rw (c.columns_agree.ensures, compared.same.ensures, compared.slice_of-3.ensures, numbered.number-2.ensures) (switch_agrees place.args.r.now switches)
