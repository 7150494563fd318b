-- `arms::resolved_wire_connection` meets its contract, by what the look-up finds. Assumes nothing.
use mathlib.Core.Path.{sym, ◌∙◌}
use Rattle.arms.specs.Arms.{resolved_wire_connection}
use Rattle.arms.proofs.resolved_wire_connection.Goals as goal

pub returns-in_default : goal.returns-in_default
unfolding resolved_wire_connection
returns-in_default c = rw (sym c.find.ensures ∙ c.in_default.is)

pub returns : goal.returns
unfolding resolved_wire_connection
returns c = rw (sym c.find.ensures ∙ c.in-At.is) c.arm_of.ensures
