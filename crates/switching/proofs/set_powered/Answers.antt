-- `switching::set_powered` writes within the table: a row that is found is one of its rows. Assumes nothing.
use Rattle.std.proofs.Common.{sym, arith}
use Rattle.world.proofs.Finding.{found_stands}
use Rattle.switching.proofs.set_powered.Goals as goal

pub overflow_mul-table : goal.overflow_mul-table
overflow_mul-table c = omega (arith, (found_stands _ _ _ (sym c.in-At.ensures)).0)

pub overflow_add-table : goal.overflow_add-table
overflow_add-table c = omega (arith, (found_stands _ _ _ (sym c.in-At.ensures)).0)

pub bounds-table-i : goal.bounds-table-i
bounds-table-i c = omega (arith, (found_stands _ _ _ (sym c.in-At.ensures)).0)
