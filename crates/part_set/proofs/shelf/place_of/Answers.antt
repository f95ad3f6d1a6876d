use Rattle.std.proofs.Common.{rules}
use Rattle.std.proofs.lemmas.List.Sorted.{IsPartitionPoint-from_clause}
use Rattle.part_set.specs.Parts.{in_order}
use Rattle.part_set.proofs.Orders.{front_first}
use Rattle.part_set.proofs.shelf.place_of.Goals as goal

pub returns-clause-front : goal.returns-clause-front
returns-clause-front g c =
    let point = IsPartitionPoint-from_clause (λ kept. in_order kept.name c.args.name.now) _ _ c.partition_point.ensures.partitioned (front_first c.args.parts.now c.args.name.now c.requires) (λ a r q k. search rules) in
    point.0

pub returns-clause-back : goal.returns-clause-back
returns-clause-back g c =
    let point = IsPartitionPoint-from_clause (λ kept. in_order kept.name c.args.name.now) _ _ c.partition_point.ensures.partitioned (front_first c.args.parts.now c.args.name.now c.requires) (λ a r q k. search rules) in
    point.1
