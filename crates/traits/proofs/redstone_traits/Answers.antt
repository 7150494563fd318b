-- `traits::redstone_traits` meets its contract. Assumes nothing.
use mathlib.Core.Path.{sym, ◌∙◌}
use borrow.Author.Tests.{eq-eqb, ne_eqb}
use Rattle.traits.specs.Traits.{traits}
use Rattle.traits.proofs.redstone_traits.Goals as goal

pub returns-then-shape-eq-PLAIN : goal.returns-then-shape-eq-PLAIN
unfolding traits
returns-then-shape-eq-PLAIN c = let shape = c.shape_of-shape in
    rw (eq-eqb _ 0 (sym shape.ensures ∙ c.if-shape-eq-PLAIN.true), ← c.kind_of.ensures) c.plain.ensures

pub returns : goal.returns
unfolding traits
returns c = let shape = c.shape_of-shape in
    rw (← shape.ensures, ne_eqb shape.result 0 c.if-shape-eq-PLAIN.false) c.of_shape.ensures
