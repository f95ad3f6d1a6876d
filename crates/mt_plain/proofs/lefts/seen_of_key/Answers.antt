use Rattle.std.proofs.Common.{ap, filter, ◌∙◌}
use Rattle.std.specs.List.{list_all}
use Rattle.std.proofs.lemmas.List.{take_all}
use Rattle.mt_plain.specs.Lefts.{is_like}
use Rattle.mt_plain.proofs.LeftRows.{key_exactly}
use Rattle.mt_plain.proofs.lefts.seen_of_key.Goals as goal

pub returns : goal.returns
returns c =
    let schema = c.args.schema.now in
    let row = c.args.row.now in
    let items = c.deref-list-items.result.now in
    let whole = take_all c.loop-list.list-index items c.loop-list-test.false ∙ c.deref-list-items.ensures.value in
    key_exactly schema c.args.is_final row c.args.own.now c.deref.result.now c.in_ok-lists.lists.items c.loop-list.outs.items c.requires (c.deref.ensures.value ∙ c.in_ok-functions.ensures)
    c.in_ok-lists.ensures.folded c.in_ok-lists.ensures.merged
    (c.loop-list.invariant ∙ ap (filter (list_all (is_like schema row))) whole)
