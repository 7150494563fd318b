-- `replace::is_renewed` meets its contract. Assumes nothing.
use mathlib.Core.Path.{sym, ◌∙◌}
use borrow.Author.Tests.{eq-eqb, ne_eqb}
use Rattle.feeding.specs.Replaced.{is_renewed}
use Rattle.replace.proofs.is_renewed.Goals as goal

pub returns-then-i-n : goal.returns-then-i-n
unfolding is_renewed
returns-then-i-n c = rw (eq-eqb _ _ c.if-i-n.true)

pub returns-then-kind_of-eq-REDSTONE_WIRE : goal.returns-then-kind_of-eq-REDSTONE_WIRE
unfolding is_renewed
returns-then-kind_of-eq-REDSTONE_WIRE c = let test = c in
    rw (ne_eqb _ _ test.if-i-n.false, eq-eqb _ 3 (sym test.kind_of.ensures ∙ test.if-kind_of-eq-REDSTONE_WIRE.true), ← c.pos_of.ensures, ← c.pos_of-then-kind_of-eq-REDSTONE_WIRE.ensures)
    c.is_near.ensures

pub returns : goal.returns
unfolding is_renewed
returns c = rw (ne_eqb _ _ c.if-i-n.false, ← c.kind_of.ensures, ne_eqb _ 3 c.if-kind_of-eq-REDSTONE_WIRE.false)
