use Rattle.std.proofs.Common.{ap, refl, ◌∙◌}
use Rattle.std.proofs.lemmas.Map.Iter.{rest_all, rest_more}
use Rattle.std.specs.Map.Iter.{deref_pair}
use Rattle.mutation_queue.specs.declared.scope.Scope.TheVariants as scopes
use Rattle.mutation_queue.specs.Queue.{mutations_of}
use Rattle.mutation_queue.proofs.Gone.{gone_all, gone_more, gone_none}
use Rattle.mutation_queue.proofs.Tables.{NoneOf, first_here, none_of_all}
use Rattle.mutation_queue.proofs.Waiting.{Waits, WaitsFirst, next_is, none_of_none}
use Rattle.mutation_queue.proofs.rewriting.rewrite_of_all.Goals as goal

pub loop-table-init : goal.loop-table-init
loop-table-init g c =
    gone_none (NoneOf (Waits c.args.queue.now)) c.args.set.now.tables.entries c.into_iter-table-iterator.result
    (c.into_iter-table-iterator.ensures.into_iter_gives ∙ c.tables-table-items.ensures.tables)

pub loop-table-preserved : goal.loop-table-preserved
loop-table-preserved g c =
    gone_more (NoneOf (Waits c.args.queue.now)) c.args.set.now.tables.entries c.loop-table.table-iterator _ _ c.loop-table.invariant
    (rest_more deref_pair c.loop-table.table-iterator c.next.new.self c.next.result _ c.in-Some.is c.next.ensures.steps) c.in_default.ensures.none

pub returns-in-Some-rewrite_in_table-clause-some : goal.returns-in-Some-rewrite_in_table-clause-some
returns-in-Some-rewrite_in_table-clause-some g c =
    let r = c.in-Some-rewrite_in_table.found in
    let first = c.in-Some-rewrite_in_table.ensures.some in
    next_is c.args.set.now c.args.queue.now scopes.All r c.in-Some.table.now r.name.partition (ap (λ t. t.now) c.in-Some-rewrite_in_table.ensures.table) refl
    (first_here c.args.set.now (Waits c.args.queue.now) (λ t. none_of_none (mutations_of c.args.queue.now t)) c.tables-table-items.ensures.ordered c.loop-table.table-iterator _ _ c.loop-table.invariant
    (rest_more deref_pair c.loop-table.table-iterator c.next.new.self c.next.result _ c.in-Some.is c.next.ensures.steps) (WaitsFirst c.args.queue.now r) r.name.partition first.here first.first)

pub returns : goal.returns
returns g c =
    let all = gone_all (NoneOf (Waits c.args.queue.now)) c.args.set.now.tables.entries c.loop-table.table-iterator c.loop-table.invariant
    (rest_all deref_pair c.loop-table.table-iterator c.next.new.self c.next.result c.in-None.is c.next.ensures.steps) in
    record {
      none = λ t p inside. none_of_all c.args.set.now (Waits c.args.queue.now) (λ u. none_of_none (mutations_of c.args.queue.now u)) c.tables-table-items.ensures.ordered all t p;
      some = tt;
    }
