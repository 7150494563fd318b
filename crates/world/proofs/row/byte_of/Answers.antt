-- `world::row::byte_of` meets its contract: past the end the definition has 0 too. Assumes nothing.
use mathlib.Core.Path.{sym}
use native.Mathlib.Omega.{arith}
use lib.ListN.{get_or-eq_default}
use Rattle.world.proofs.row.byte_of.Goals as goal

pub returns-then-table-row : goal.returns-then-table-row
returns-then-table-row c = let a = c.args in sym (get_or-eq_default a.table.now 0 (omega arith))

pub returns-then-table-start : goal.returns-then-table-start
returns-then-table-start c = let a = c.args in sym (get_or-eq_default a.table.now 0 (omega arith))
