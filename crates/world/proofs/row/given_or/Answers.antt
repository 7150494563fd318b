-- `world::row::given_or` meets its contract. Assumes nothing.
use borrow.Author.Tests.{eq-eqb, ne_eqb}
use mathlib.Core.Path.{sym, ◌∙◌}
use Rattle.world.proofs.row.given_or.Goals as goal

pub returns-then-byte_of-eq1 : goal.returns-then-byte_of-eq1
returns-then-byte_of-eq1 c = rw (eq-eqb _ 1 (sym c.byte_of.ensures ∙ c.if-byte_of-eq1.true)) c.byte_of-then-byte_of-eq1.ensures

pub returns : goal.returns
returns c = rw (← c.byte_of.ensures, ne_eqb _ 1 c.if-byte_of-eq1.false)
