-- `adjacency::search::halve` meets its contract: the library's search ends at the first row that is not below the number. Assumes nothing.
use borrow.Author.Rules.{rules}
use Rattle.std.proofs.lemmas.List.Sorted.{IsPartitionedBy-ltb, IsPartitionPoint-from_clause}
use Rattle.adjacency.proofs.Searching.{ascending, point_reached}
use Rattle.adjacency.proofs.search.halve.Invariants.{is_below}
use Rattle.adjacency.proofs.search.halve.Goals as goal

pub returns : goal.returns
returns c = let s = c.args.column.now in
    point_reached s c.args.want _ c.partition_point.ensures.bound
    (IsPartitionPoint-from_clause (is_below c.args.want) s _ c.partition_point.ensures.partitioned (IsPartitionedBy-ltb (λ x. x) s c.args.want (ascending c.requires)) (λ a r q k. search rules))
