use Rattle.std.proofs.Common.{◌∙◌}
use Rattle.std.proofs.lemmas.Map.Iter.{rest_all, rest_more}
use Rattle.std.specs.Map.Iter.{deref_pair}
use Rattle.mutation_queue.specs.declared.scope.Scope.TheVariants as scopes
use Rattle.mutation_queue.proofs.Gone.{gone_all, gone_more, gone_none}
use Rattle.mutation_queue.proofs.Tables.{NoneOf, first_here, none_of_all}
use Rattle.merge_select.specs.Picks.{Choice}
use Rattle.merge_select.specs.Wishes.{choice_of}
use Rattle.merge_select.proofs.Tables.{ChosenAt, Takes, pick_is, takes_none}
use Rattle.merge_select.proofs.picking.pick_of_all.Goals as goal

pub loop-table-init : goal.loop-table-init
loop-table-init g c =
    gone_none (NoneOf (Takes (choice_of g.P.Rows.row_count c.args.choosing.now))) c.args.choosing.now.set.now.tables.entries c.into_iter-table-iterator.result
    (c.into_iter-table-iterator.ensures.into_iter_gives ∙ c.tables-table-items.ensures.tables)

pub loop-table-preserved : goal.loop-table-preserved
loop-table-preserved g c =
    gone_more (NoneOf (Takes (choice_of g.P.Rows.row_count c.args.choosing.now))) c.args.choosing.now.set.now.tables.entries c.loop-table.table-iterator _ _ c.loop-table.invariant
    (rest_more deref_pair c.loop-table.table-iterator c.next.new.self c.next.result _ c.in-Some.is c.next.ensures.steps) c.in_default.ensures.none

pub returns-in-Some-pick_in_table-clause-some : goal.returns-in-Some-pick_in_table-clause-some
returns-in-Some-pick_in_table-clause-some g c =
    let choice : Choice g.row.P.Denot = choice_of g.P.Rows.row_count c.args.choosing.now in
    let place = c.in-Some-pick_in_table.first in
    pick_is choice scopes.All c.pair_at.result c.in-Some.table.now c.in-Some-pick_in_table.partition place c.pair_at.ensures.table c.pair_at.ensures.partition c.pair_at.ensures.first c.pair_at.ensures.count
    (first_here c.args.choosing.now.set.now (Takes choice) (takes_none choice) c.tables-table-items.ensures.ordered c.loop-table.table-iterator _ _ c.loop-table.invariant
    (rest_more deref_pair c.loop-table.table-iterator c.next.new.self c.next.result _ c.in-Some.is c.next.ensures.steps)
    (ChosenAt choice place) c.in-Some-pick_in_table.partition c.in-Some-pick_in_table.ensures.some.chooses c.in-Some-pick_in_table.ensures.some.first)

pub returns : goal.returns
returns g c =
    let choice : Choice g.row.P.Denot = choice_of g.P.Rows.row_count c.args.choosing.now in
    let all = gone_all (NoneOf (Takes choice)) c.args.choosing.now.set.now.tables.entries c.loop-table.table-iterator c.loop-table.invariant
    (rest_all deref_pair c.loop-table.table-iterator c.next.new.self c.next.result c.in-None.is c.next.ensures.steps) in
    record {
      none = λ t p inside. none_of_all c.args.choosing.now.set.now (Takes choice) (takes_none choice) c.tables-table-items.ensures.ordered all t p;
      some = tt;
    }
