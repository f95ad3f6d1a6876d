use Rattle.std.proofs.Common.{IfNone, subst, sym}
use Rattle.mutation_queue.specs.declared.scope.Scope.{Scope}
use Rattle.mutation_queue.specs.Rewrites.{NoneWaits}
use Rattle.mutation_queue.proofs.rewriting.next_rewrite.Goals as goal

pub returns-in-All-clause-none : goal.returns-in-All-clause-none
returns-in-All-clause-none g c = subst (λ (scope : Scope). IfNone c.rewrite_of_all.result (NoneWaits c.args.set.now c.args.queue.now scope)) (sym c.in-All.is) c.rewrite_of_all.ensures.none

pub returns-in-Table-clause-none : goal.returns-in-Table-clause-none
returns-in-Table-clause-none g c = subst (λ (scope : Scope). IfNone c.rewrite_of_table.result (NoneWaits c.args.set.now c.args.queue.now scope)) (sym c.in-Table.is) c.rewrite_of_table.ensures.none

pub returns-in-Partition-clause-none : goal.returns-in-Partition-clause-none
returns-in-Partition-clause-none g c =
    subst (λ (scope : Scope). IfNone c.rewrite_of_partition.result (NoneWaits c.args.set.now c.args.queue.now scope)) (sym c.in-Partition.is) c.rewrite_of_partition.ensures.none
