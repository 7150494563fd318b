-- `clear::holder` meets its contract: a row that supports is one of the table's, whose number fits. Assumes nothing.
use Rattle.std.proofs.Common.{sym, arith}
use Rattle.clearing.proofs.Supported.{row_supports}
use Rattle.clear.proofs.holder.Goals as goal

pub overflow_cast-result-in-At : goal.overflow_cast-result-in-At
overflow_cast-result-in-At c =
    let a = c.args in
    omega (arith, (row_supports a.profile.now a.table.now a.row c.in-At.j (sym c.in-At.ensures)).inside, c.requires.1)
