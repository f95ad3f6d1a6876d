use Rattle.std.proofs.Common.{rules}
use Rattle.std.specs.Ordering.{is_gt}
use Rattle.std.proofs.lemmas.List.Sorted.{IsPartitionPoint-from_clause}
use Rattle.part_history.specs.declared.part.CorePart.{CorePart}
use Rattle.part_history.specs.Parts.{partition_cmp}
use Rattle.table_core.proofs.Neighbours.{below_first, front_length}
use Rattle.table_core.proofs.store.start_of.Goals as goal

pub returns : goal.returns
returns c =
    let point = IsPartitionPoint-from_clause (λ (p : CorePart). is_gt (partition_cmp c.args.partition p.name.partition)) _ _ c.partition_point.ensures.partitioned (below_first c.args.partition c.args.parts.now c.requires) (λ a r q k. search rules) in
    front_length (λ (p : CorePart). is_gt (partition_cmp c.args.partition p.name.partition)) c.args.parts.now c.partition_point.result c.partition_point.ensures.bound point.0 point.1
