-- `redraw::update_wire_shapes` meets its contract, by what the checks answer. Assumes nothing.
use mathlib.Core.Path.{sym, ◌∙◌}
use Rattle.refusals.proofs.Accepted.{accepted_input}
use Rattle.redraw.proofs.update_wire_shapes.Goals as goal

pub returns-in-Err : goal.returns-in-Err
returns-in-Err c = let told = c.in-Err.is in
    let refused = sym c.check_input.ensures ∙ told in
    record { answer = rw refused c.answer.ensures; table = rw refused }

pub redraw-requires : goal.redraw-requires
redraw-requires c = let a = c.args in
    (accepted_input a.profile.now a.table.now (sym c.check_input.ensures ∙ c.in_default.is)).1.whole

pub returns : goal.returns
returns c = let none = sym c.check_input.ensures ∙ c.in_default.is in
    record { answer = rw none; table = rw none c.redraw.ensures }
