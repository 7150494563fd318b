-- `world::find::is_at_or_past` meets its contract: what has a smaller x comes before. Assumes nothing.
use borrow.Author.Rules.{rules, sfits_of}
use mathlib.Core.Path.{◌≡◌}
use mathlib.Core.Bool.{true}
use lib.Signed.{lt_z}
use mir.Syntax.{w32}
use mir.Val.{SFits}
use Rattle.places.specs.Places.{before}
use Rattle.places.proofs.Signs.{back32}
use Rattle.world.specs.Rows.{pos_of}
use Rattle.world.proofs.find.is_at_or_past.Goals as goal

pub returns-then-x_of-q : goal.returns-then-x_of-q
unfolding pos_of before
returns-then-x_of-q c = let s = c in
    let x = c.x_of in
    let fx : SFits w32 x.result = sfits_of x.type_inv in
    let fq : SFits w32 s.args.q.x = search rules in
    let less : lt_z x.result s.args.q.x ≡ true = rw (back32 x.result fx, back32 s.args.q.x fq) at c.if-x_of-q.true in
    rw (← x.ensures, less)
