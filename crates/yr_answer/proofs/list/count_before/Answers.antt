use Rattle.std.proofs.Common.{pos, int_lt, rules}
use Rattle.std.proofs.lemmas.List.Sorted.{IsPartitionPoint-from_clause}
use Rattle.yr_answer.proofs.ListLemmas.{partitioned_before, count_at}
use Rattle.yr_answer.proofs.list.count_before.Goals as goal

pub returns-clause-count : goal.returns-clause-count
returns-clause-count c =
    let x = c.args.offset in
    let xs = c.args.list.now in
    let p = IsPartitionPoint-from_clause (λ m. int_lt (pos m.0) x) xs c.partition_point.result c.partition_point.ensures.partitioned (partitioned_before x xs c.requires) (λ a r f' q. search rules) in
    count_at (λ m. int_lt (pos m.0) x) xs c.partition_point.result c.partition_point.ensures.bound p.0 p.1
