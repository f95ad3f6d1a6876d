use Rattle.std.proofs.Common.{not, rules}
use Rattle.std.specs.Ordering.{is_gt}
use Rattle.std.proofs.lemmas.List.Sorted.{IsPartitionPoint-from_clause}
use Rattle.part_history.specs.declared.part.CorePart.{CorePart}
use Rattle.part_history.specs.Parts.{partition_cmp}
use Rattle.part_history.proofs.Ordered.{upto_first}
use Rattle.table_core.proofs.Ends.{back_is, front_is}
use Rattle.table_core.proofs.store.end_of.Goals as goal

pub returns-clause-front : goal.returns-clause-front
returns-clause-front c =
    let point = IsPartitionPoint-from_clause (λ (p : CorePart). not (is_gt (partition_cmp p.name.partition c.args.partition))) _ _ c.partition_point.ensures.partitioned (upto_first c.args.partition c.args.parts.now c.requires) (λ a r q k. search rules) in
    front_is (λ (p : CorePart). is_gt (partition_cmp p.name.partition c.args.partition)) c.args.parts.now c.partition_point.result c.partition_point.ensures.bound point.0 point.1

pub returns-clause-back : goal.returns-clause-back
returns-clause-back c =
    let point = IsPartitionPoint-from_clause (λ (p : CorePart). not (is_gt (partition_cmp p.name.partition c.args.partition))) _ _ c.partition_point.ensures.partitioned (upto_first c.args.partition c.args.parts.now c.requires) (λ a r q k. search rules) in
    back_is (λ (p : CorePart). is_gt (partition_cmp p.name.partition c.args.partition)) c.args.parts.now c.partition_point.result c.partition_point.ensures.bound point.0 point.1
