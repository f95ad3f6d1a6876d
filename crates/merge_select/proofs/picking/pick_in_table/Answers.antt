use Rattle.std.proofs.Common.{◌∙◌, List, subst, sym}
use Rattle.std.proofs.lemmas.Map.Iter.{rest_all, rest_more}
use Rattle.std.specs.Map.Iter.{deref_pair}
use Rattle.mutation_queue.specs.part_set.declared.kept.Kept.{Kept}
use Rattle.mutation_queue.proofs.Gone.{gone_all, gone_more, gone_none}
use Rattle.mutation_queue.proofs.Shelves.{NoneOn, none_on_all}
use Rattle.merge_select.specs.Picks.{MayTake}
use Rattle.merge_select.specs.Wishes.{wished_of}
use Rattle.merge_select.proofs.Places.{none_of_none}
use Rattle.merge_select.proofs.Shelves.{first_of_table}
use Rattle.merge_select.proofs.picking.pick_in_table.Goals as goal

pub loop-shelf-init : goal.loop-shelf-init
loop-shelf-init g c =
    gone_none (NoneOn (MayTake g.P.Rows.row_count (wished_of c.args.wish.now) c.args.wish.now.policy)) c.args.table.now c.into_iter-shelf-iterator.result
    (c.into_iter-shelf-iterator.ensures.into_iter_gives ∙ c.shelves-shelf-items.ensures.shelves)

pub loop-shelf-preserved : goal.loop-shelf-preserved
loop-shelf-preserved g c =
    gone_more (NoneOn (MayTake g.P.Rows.row_count (wished_of c.args.wish.now) c.args.wish.now.policy)) c.args.table.now c.loop-shelf.shelf-iterator _ _ c.loop-shelf.invariant
    (rest_more deref_pair c.loop-shelf.shelf-iterator c.next.new.self c.next.result _ c.in-Some.is c.next.ensures.steps)
    (λ k takes. c.in_default.ensures.none k (subst (λ (parts : List (Kept g.row.P.Denot)). MayTake g.P.Rows.row_count (wished_of c.args.wish.now) c.args.wish.now.policy parts k) (sym c.as_slice-parts.ensures.parts) takes))

pub returns-in-Some-pick_in-clause-some : goal.returns-in-Some-pick_in-clause-some
returns-in-Some-pick_in-clause-some g c =
    let found = first_of_table g.P.Rows.row_count (wished_of c.args.wish.now) c.args.wish.now.policy c.args.table.now c.shelves-shelf-items.ensures.filed c.loop-shelf.shelf-iterator _ _ c.loop-shelf.invariant
    (rest_more deref_pair c.loop-shelf.shelf-iterator c.next.new.self c.next.result _ c.in-Some.is c.next.ensures.steps)
    c.as_slice-parts.result.now c.as_slice-parts.ensures.parts c.in-Some-pick_in.first c.index-parts-first.result c.in-Some-pick_in.ensures.some in
    record { chooses = found.0; first = found.1 }

pub returns : goal.returns
returns g c =
    let May = MayTake g.P.Rows.row_count (wished_of c.args.wish.now) c.args.wish.now.policy in
    let all = gone_all (NoneOn May) c.args.table.now c.loop-shelf.shelf-iterator c.loop-shelf.invariant
    (rest_all deref_pair c.loop-shelf.shelf-iterator c.next.new.self c.next.result c.in-None.is c.next.ensures.steps) in
    record {
      none = λ p k takes. none_on_all May (none_of_none g.P.Rows.row_count (wished_of c.args.wish.now) c.args.wish.now.policy) c.args.table.now c.shelves-shelf-items.ensures.filed all p k takes;
      some = tt;
    }
