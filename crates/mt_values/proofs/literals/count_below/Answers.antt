use Rattle.std.proofs.Common.{rules}
use Rattle.std.specs.Ordering.{is_lt}
use Rattle.std.proofs.lemmas.List.Sorted.{IsPartitionPoint-from_clause}
use Rattle.mt_values.specs.Cells.{value_of}
use Rattle.mt_values.specs.Order.{value_cmp}
use Rattle.mt_values.proofs.Searches.{below_first}
use Rattle.mt_values.proofs.literals.count_below.Goals as goal

pub returns-clause-front : goal.returns-clause-front
returns-clause-front c =
    let point = IsPartitionPoint-from_clause (λ v. is_lt (value_cmp v (value_of c.args.cell))) _ _ c.partition_point.ensures.partitioned (below_first c.args.ascending.now (value_of c.args.cell) c.requires) (λ a r q k. search rules) in
    point.0

pub returns-clause-back : goal.returns-clause-back
returns-clause-back c =
    let point = IsPartitionPoint-from_clause (λ v. is_lt (value_cmp v (value_of c.args.cell))) _ _ c.partition_point.ensures.partitioned (below_first c.args.ascending.now (value_of c.args.cell) c.requires) (λ a r q k. search rules) in
    point.1
