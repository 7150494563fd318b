-- `layout::most_of` meets its contract. Assumes nothing.
use borrow.Author.Tests.{eq-eqb, ne_eqb}
use Rattle.blocks.specs.Kind.{RedstoneTorch}
use Rattle.layout.proofs.most_of.Goals as goal

pub returns-then-kind : goal.returns-then-kind
returns-then-kind c = rw (eq-eqb _ RedstoneTorch c.if-kind.true)

pub returns-else-kind : goal.returns-else-kind
returns-else-kind c = rw (ne_eqb _ RedstoneTorch c.if-kind.false)
