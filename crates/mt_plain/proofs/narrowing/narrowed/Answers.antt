use Rattle.std.proofs.Common.{ap, ap₂, sym, ◌∙◌}
use Rattle.part_history.specs.predicate.Indexes.{chosen_by_index}
use Rattle.part_history.specs.predicate.Masks.{both}
use Rattle.part_history.proofs.PredicateNarrowing.{narrowed_more}
use Rattle.mt_plain.proofs.narrowing.narrowed.Goals as goal

pub loop-index-preserved : goal.loop-index-preserved
loop-index-preserved c =
    let indexes = c.args.indexes.now in
    let by = chosen_by_index c.args.schema.now c.args.condition.now c.args.rows.now in
    let i = c.loop-index.index-index in
    let index = c.index-item.result in
    let own = c.deref-in-loop-index.ensures.value ∙ c.in_ok-own.ensures ∙ ap by c.index-item.is in
    c.in_ok-left.ensures
    ∙ ap₂ both (c.deref.ensures.value ∙ c.loop-index.invariant) own
    ∙ sym (narrowed_more by c.args.chosen.items indexes i index c.loop-index-test.true)
