use Rattle.std.proofs.Common.{refl}
use Rattle.mutation_queue.specs.declared.scope.Scope.TheVariants as scopes
use Rattle.mutation_queue.proofs.Tables.{first_of_one, none_of_one, none_then}
use Rattle.merge_select.specs.Picks.{Choice}
use Rattle.merge_select.specs.Wishes.{choice_of}
use Rattle.merge_select.proofs.Tables.{ChosenAt, Takes, pick_is}
use Rattle.merge_select.proofs.picking.pick_of_table.Goals as goal

pub returns-in_err-partition-clause-none : goal.returns-in_err-partition-clause-none
returns-in_err-partition-clause-none g c =
    let choice : Choice g.row.P.Denot = choice_of g.P.Rows.row_count c.args.choosing.now in
    none_then c.from_residual-in_err-partition.result
    (λ t p inside. none_of_one c.args.choosing.now.set.now (Takes choice) c.args.table.now c.in_ok-parts.parts.now c.in_ok-parts.ensures c.in_err-partition.ensures.none t p inside)

pub returns-clause-some : goal.returns-clause-some
returns-clause-some g c =
    let choice : Choice g.row.P.Denot = choice_of g.P.Rows.row_count c.args.choosing.now in
    let scope = scopes.Table c.args.table in
    let place = c.in_ok-partition.first in
    pick_is choice scope c.pair_at.result c.args.table.now c.in_ok-partition.partition place c.pair_at.ensures.table c.pair_at.ensures.partition c.pair_at.ensures.first c.pair_at.ensures.count
    (first_of_one c.args.choosing.now.set.now (Takes choice) c.args.table.now c.in_ok-parts.parts.now c.in_ok-parts.ensures (ChosenAt choice place) scope c.in_ok-partition.partition refl (λ u q inside. inside)
    c.in_ok-partition.ensures.some.chooses c.in_ok-partition.ensures.some.first)
