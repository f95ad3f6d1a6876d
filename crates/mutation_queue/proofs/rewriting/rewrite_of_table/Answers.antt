use Rattle.std.proofs.Common.{ap, refl}
use Rattle.mutation_queue.specs.declared.scope.Scope.TheVariants as scopes
use Rattle.mutation_queue.specs.Queue.{mutations_of}
use Rattle.mutation_queue.proofs.Tables.{first_of_one, none_of_no_table, none_of_one, none_then}
use Rattle.mutation_queue.proofs.Waiting.{Waits, WaitsFirst, next_is, none_of_none, none_weaker, some_both}
use Rattle.mutation_queue.proofs.rewriting.rewrite_of_table.Goals as goal

pub returns-in_err-parts-clause-none : goal.returns-in_err-parts-clause-none
returns-in_err-parts-clause-none g c =
    none_then c.from_residual.result
    (λ t p inside. none_of_no_table c.args.set.now (Waits c.args.queue.now) (λ u. none_of_none (mutations_of c.args.queue.now u)) c.args.table.now c.in_err-parts.ensures t p inside)

pub returns-clause-none : goal.returns-clause-none
returns-clause-none g c =
    none_weaker c.rewrite_in_table.result
    (λ none t p inside. none_of_one c.args.set.now (Waits c.args.queue.now) c.args.table.now c.in_ok-parts.parts.now c.in_ok-parts.ensures none t p inside) c.rewrite_in_table.ensures.none

pub returns-clause-some : goal.returns-clause-some
returns-clause-some g c =
    some_both c.rewrite_in_table.result
    (λ r first named. next_is c.args.set.now c.args.queue.now (scopes.Table c.args.table) r c.args.table.now r.name.partition (ap (λ t. t.now) named) refl
    (first_of_one c.args.set.now (Waits c.args.queue.now) c.args.table.now c.in_ok-parts.parts.now c.in_ok-parts.ensures (WaitsFirst c.args.queue.now r) (scopes.Table c.args.table) r.name.partition refl
    (λ u q inside. inside) first.here first.first))
    c.rewrite_in_table.ensures.some c.rewrite_in_table.ensures.table
