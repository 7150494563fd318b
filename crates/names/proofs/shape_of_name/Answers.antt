-- `names::shape_of_name` meets its contract: the tests in their order. Assumes nothing.
use mathlib.Core.Path.{sym, ◌∙◌}
use Rattle.names.specs.Names.{shape_of_name}
use Rattle.names.proofs.shape_of_name.Goals as goal

pub returns-then-ends_with : goal.returns-then-ends_with
unfolding shape_of_name
returns-then-ends_with c = rw (sym c.ends_with.ensures ∙ c.if-ends_with.true) c.slab_shape.ensures

pub returns-then-ends_with-2 : goal.returns-then-ends_with-2
unfolding shape_of_name
returns-then-ends_with-2 c = rw (sym c.ends_with.ensures ∙ c.if-ends_with.false, sym c.ends_with-2.ensures ∙ c.if-ends_with-2.true) c.stairs_shape.ensures

pub returns-then-is_glass : goal.returns-then-is_glass
unfolding shape_of_name
returns-then-is_glass c = rw (sym c.ends_with.ensures ∙ c.if-ends_with.false, sym c.ends_with-2.ensures ∙ c.if-ends_with-2.false, sym c.is_glass.ensures ∙ c.if-is_glass.true)

pub returns : goal.returns
unfolding shape_of_name
returns c = rw (sym c.ends_with.ensures ∙ c.if-ends_with.false, sym c.ends_with-2.ensures ∙ c.if-ends_with-2.false, sym c.is_glass.ensures ∙ c.if-is_glass.false)
