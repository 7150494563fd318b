-- `unions::count_rows` meets its contract. The loop's invariant: the rows passed are counted, and do not clash. Assumes nothing.
use Rattle.std.proofs.Common.{◌≡◌}
use Rattle.unions.proofs.Counting.{Counting}
use Rattle.unions.proofs.count_rows.Given as goal

abbrev pub invariant-loop-next : goal.invariant-loop-next
invariant-loop-next l =
    (goal.iterator-loop-next).can_next l.next-iterator
    × (goal.iterator-loop-next).is_finite l.next-iterator
    × (l.next-iterator.first.now ≡ l.first)
    × (l.next-iterator.second.now ≡ l.second)
    × Counting l.first l.second l.next-iterator.i l.next-iterator.j l.count
