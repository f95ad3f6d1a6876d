use Rattle.std.proofs.Common.{List, subst, sym, ◌∙◌}
use Rattle.std.proofs.lemmas.Map.Iter.{rest_all, rest_more}
use Rattle.std.specs.Map.Iter.{deref_pair}
use Rattle.part_set.specs.declared.kept.Kept.{Kept}
use Rattle.mutation_queue.specs.Queue.{mutations_of}
use Rattle.mutation_queue.specs.Rewrites.{MayRewrite}
use Rattle.mutation_queue.proofs.Gone.{gone_all, gone_more, gone_none}
use Rattle.mutation_queue.proofs.Shelves.{NoneOn, none_on_all}
use Rattle.mutation_queue.proofs.Waiting.{first_on_shelf, none_of_none}
use Rattle.mutation_queue.proofs.rewriting.rewrite_in_table.Goals as goal

pub loop-shelf-init : goal.loop-shelf-init
loop-shelf-init g c =
    gone_none (NoneOn (MayRewrite (mutations_of c.args.queue.now c.args.table.now))) c.args.parts.now c.into_iter-shelf-iterator.result
    (c.into_iter-shelf-iterator.ensures.into_iter_gives ∙ c.shelves-shelf-items.ensures.shelves)

pub loop-shelf-preserved : goal.loop-shelf-preserved
loop-shelf-preserved g c =
    let ms = mutations_of c.args.queue.now c.args.table.now in
    gone_more (NoneOn (MayRewrite ms)) c.args.parts.now c.loop-shelf.shelf-iterator _ _ c.loop-shelf.invariant
    (rest_more deref_pair c.loop-shelf.shelf-iterator c.next.new.self c.next.result _ c.in-Some.is c.next.ensures.steps)
    (λ k may. c.in_default.ensures.none k (subst (λ (parts : List (Kept g.row.P.Denot)). MayRewrite ms parts k) (sym c.as_slice-kept.ensures.parts) may))

pub returns-in-Some-rewrite_in-clause-some : goal.returns-in-Some-rewrite_in-clause-some
returns-in-Some-rewrite_in-clause-some g c =
    first_on_shelf (mutations_of c.args.queue.now c.args.table.now) c.args.parts.now c.shelves-shelf-items.ensures.filed c.loop-shelf.shelf-iterator _ _ c.loop-shelf.invariant
    (rest_more deref_pair c.loop-shelf.shelf-iterator c.next.new.self c.next.result _ c.in-Some.is c.next.ensures.steps)
    c.as_slice-kept.result.now c.as_slice-kept.ensures.parts c.in-Some-rewrite_in.found c.in-Some-rewrite_in.ensures.some

pub returns : goal.returns
returns g c =
    let ms = mutations_of c.args.queue.now c.args.table.now in
    let all = gone_all (NoneOn (MayRewrite ms)) c.args.parts.now c.loop-shelf.shelf-iterator c.loop-shelf.invariant
    (rest_all deref_pair c.loop-shelf.shelf-iterator c.next.new.self c.next.result c.in-None.is c.next.ensures.steps) in
    record {
      none = λ p k may. none_on_all (MayRewrite ms) (none_of_none ms) c.args.parts.now c.shelves-shelf-items.ensures.filed all p k may;
      some = tt;
      table = tt;
    }
