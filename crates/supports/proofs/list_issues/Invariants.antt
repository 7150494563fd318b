-- `supports::list_issues` meets its contract. The loop's invariant: of the rows passed, those that lack a support are at the front. Assumes nothing.
use Rattle.columns.proofs.Indices.{Listed}
use Rattle.supports.specs.Supports.{lacks_support}
use Rattle.supports.proofs.list_issues.Given as goal

abbrev pub invariant-loop-i : goal.invariant-loop-i
invariant-loop-i l = Listed (lacks_support l.profile l.table) l.i l.initial.column l.column l.count
