use Rattle.std.proofs.Common.{IfNone, subst, sym}
use Rattle.mutation_queue.specs.declared.scope.Scope.{Scope}
use Rattle.merge_select.specs.Picks.{NoneIn}
use Rattle.merge_select.proofs.picking.pick.Goals as goal

pub returns-in-All-clause-none : goal.returns-in-All-clause-none
returns-in-All-clause-none g c =
    subst (λ (scope : Scope). IfNone c.pick_of_all.result (NoneIn (record { set = c.args.set.now; queue = c.args.queue.now; count = g.P.Rows.row_count; policy = c.args.policy }) scope)) (sym c.in-All.is) c.pick_of_all.ensures.none

pub returns-in-Table-clause-none : goal.returns-in-Table-clause-none
returns-in-Table-clause-none g c =
    subst (λ (scope : Scope). IfNone c.pick_of_table.result (NoneIn (record { set = c.args.set.now; queue = c.args.queue.now; count = g.P.Rows.row_count; policy = c.args.policy }) scope)) (sym c.in-Table.is) c.pick_of_table.ensures.none

pub returns-in-Partition-clause-none : goal.returns-in-Partition-clause-none
returns-in-Partition-clause-none g c =
    subst (λ (scope : Scope). IfNone c.pick_of_partition.result (NoneIn (record { set = c.args.set.now; queue = c.args.queue.now; count = g.P.Rows.row_count; policy = c.args.policy }) scope)) (sym c.in-Partition.is) c.pick_of_partition.ensures.none
