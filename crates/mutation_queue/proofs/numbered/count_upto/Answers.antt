use Rattle.std.proofs.Common.{get_or, leb, rules}
use Rattle.std.proofs.lemmas.List.Sorted.{IsPartitionPoint-from_clause}
use Rattle.mutation_queue.proofs.Counts.{above_from_test, most_from_test, tested_first}
use Rattle.mutation_queue.proofs.numbered.count_upto.Goals as goal

pub returns-clause-front : goal.returns-clause-front
returns-clause-front c =
    let point = IsPartitionPoint-from_clause (λ m. leb m.number c.args.number) _ _ c.partition_point.ensures.partitioned (tested_first c.args.mutations.now c.args.number c.requires) (λ a r q k. search rules) in
    λ k d low below. most_from_test (get_or c.args.mutations.now k d).number c.args.number (point.0 k d low below)

pub returns-clause-back : goal.returns-clause-back
returns-clause-back c =
    let point = IsPartitionPoint-from_clause (λ m. leb m.number c.args.number) _ _ c.partition_point.ensures.partitioned (tested_first c.args.mutations.now c.args.number c.requires) (λ a r q k. search rules) in
    λ k d low below. above_from_test (get_or c.args.mutations.now k d).number c.args.number (point.1 k d low below)
