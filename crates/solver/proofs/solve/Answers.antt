-- `solver::solve` meets its contract. Assumes nothing.
use Rattle.solver.proofs.Solving.{table_solves}
use Rattle.solver.proofs.solve.Goals as goal

pub returns : goal.returns
returns g c =
    table_solves c.requires.table (record { near_is = c.prepare.ensures.near; class_is = c.prepare.ensures.class }) _
    (rw c.fill_emitted.ensures at c.settle.ensures)
