use Rattle.std.proofs.Common.{get_or, not, rules}
use Rattle.std.proofs.lemmas.List.Sorted.{IsPartitionPoint-from_clause}
use Rattle.part_set.specs.Parts.{in_order}
use Rattle.part_set.proofs.Named.{before_first, not_true}
use Rattle.part_set.proofs.shelf.start_of.Goals as goal

pub returns-clause-front : goal.returns-clause-front
returns-clause-front g c =
    let point = IsPartitionPoint-from_clause (λ kept. not (in_order c.args.name.now kept.name)) _ _ c.partition_point.ensures.partitioned (before_first c.args.parts.now c.args.name.now c.requires) (λ a r q k. search rules) in
    λ k d low front. not_true (in_order c.args.name.now (get_or c.args.parts.now k d).name) (point.0 k d low front)
