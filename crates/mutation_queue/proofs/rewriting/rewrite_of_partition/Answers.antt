use Rattle.std.proofs.Common.{ap, refl}
use Rattle.part_set.specs.Sets.{parts_of}
use Rattle.mutation_queue.specs.declared.scope.Scope.TheVariants as scopes
use Rattle.mutation_queue.specs.Queue.{mutations_of}
use Rattle.mutation_queue.proofs.Tables.{first_of_this, none_of_this}
use Rattle.mutation_queue.proofs.Waiting.{Waits, WaitsFirst, next_is, none_weaker, part_is_of, some_both}
use Rattle.mutation_queue.proofs.rewriting.rewrite_of_partition.Goals as goal

pub returns-clause-none : goal.returns-clause-none
returns-clause-none g c =
    none_weaker c.rewrite_in.result
    (λ none t p inside. none_of_this c.args.set.now (Waits c.args.queue.now) c.args.table.now c.args.partition c.parts_in.result.now c.parts_in.ensures.parts none t p inside.0 inside.1) c.rewrite_in.ensures.none

pub returns-clause-some : goal.returns-clause-some
returns-clause-some g c =
    let table = c.args.table.now in
    let parts = c.parts_in.result.now in
    some_both c.rewrite_in.result
    (λ r found named. next_is c.args.set.now c.args.queue.now (scopes.Partition c.args.table c.args.partition) r table c.args.partition (ap (λ t. t.now) named)
    (part_is_of (mutations_of c.args.queue.now table) c.args.partition (parts_of c.args.set.now table) parts r c.parts_in.ensures.parts found)
    (first_of_this c.args.set.now (Waits c.args.queue.now) table c.args.partition parts c.parts_in.ensures.parts (WaitsFirst c.args.queue.now r) (scopes.Partition c.args.table c.args.partition) (refl, refl)
    (λ u q inside. inside) found))
    c.rewrite_in.ensures.some c.rewrite_in.ensures.table
