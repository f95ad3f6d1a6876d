use Rattle.std.proofs.Common.{refl}
use Rattle.mutation_queue.specs.declared.scope.Scope.TheVariants as scopes
use Rattle.mutation_queue.proofs.Tables.{first_of_this, none_of_this, none_then}
use Rattle.merge_select.specs.Picks.{Choice}
use Rattle.merge_select.specs.Wishes.{choice_of}
use Rattle.merge_select.proofs.Tables.{ChosenAt, Takes, pick_is}
use Rattle.merge_select.proofs.picking.pick_of_partition.Goals as goal

pub returns-in_err-first-clause-none : goal.returns-in_err-first-clause-none
returns-in_err-first-clause-none g c =
    let choice : Choice g.row.P.Denot = choice_of g.P.Rows.row_count c.args.choosing.now in
    none_then c.from_residual.result
    (λ t p inside. none_of_this c.args.choosing.now.set.now (Takes choice) c.args.table.now c.args.partition c.parts_in.result.now c.parts_in.ensures.parts c.in_err-first.ensures.none t p inside.0 inside.1)

pub returns-clause-some : goal.returns-clause-some
returns-clause-some g c =
    let choice : Choice g.row.P.Denot = choice_of g.P.Rows.row_count c.args.choosing.now in
    let scope = scopes.Partition c.args.table c.args.partition in
    let place = c.in_ok-first.first in
    pick_is choice scope c.pair_at.result c.args.table.now c.args.partition place c.pair_at.ensures.table c.pair_at.ensures.partition c.pair_at.ensures.first c.pair_at.ensures.count
    (first_of_this c.args.choosing.now.set.now (Takes choice) c.args.table.now c.args.partition c.parts_in.result.now c.parts_in.ensures.parts (ChosenAt choice place) scope (refl, refl) (λ u q inside. inside)
    c.in_ok-first.ensures.some)
