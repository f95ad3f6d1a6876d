use Rattle.std.proofs.Common.{◌≡◌, ◌∙◌, ◌<◌, [], List, ap, ap₂, arith, get_or, length, map, sym}
use Rattle.std.specs.List.{fold}
use Rattle.std.proofs.lemmas.List.{take_all}
use Rattle.mt_model.specs.predicate.Masks.{both}
use Rattle.mt_model.proofs.PredicateNarrowing.{narrowed_more}
use Rattle.part_reader.specs.skip_index.Choosing.{chosen_by}
use Rattle.part_reader.specs.skip_index.declared.index.Index.{Index}
use Rattle.select_plan.proofs.choosing.narrow.Goals as goal

pub loop-index-preserved : goal.loop-index-preserved
loop-index-preserved c =
    let condition = c.args.condition.now in
    let left = λ (index : Index). chosen_by index condition [] in
    let indexes = c.args.loaded.now.indexes in
    let i = c.loop-index.index-index in
    let item = c.index-item.result in
    let same : c.as_slice-index-items.result.now ≡ indexes = c.as_slice-index-items.ensures in
    let below : i < length indexes = omega (arith, c.loop-index-test.true, ap length same) in
    let is : item ≡ get_or indexes i item = c.index-item.is ∙ ap (λ (xs : List Index). get_or xs i item) same in
    c.in_ok-chosen.ensures
    ∙ ap₂ both (c.deref.ensures.value ∙ c.loop-index.invariant) (c.deref-in-loop-index.ensures.value ∙ c.in_ok-left.ensures ∙ ap left is)
    ∙ sym (narrowed_more left c.args.chosen.items indexes i item below)

pub returns : goal.returns
returns c =
    let left = λ (index : Index). chosen_by index c.args.condition.now [] in
    let indexes = c.args.loaded.now.indexes in
    c.loop-index.invariant
    ∙ ap (λ (xs : List Index). fold both c.args.chosen.items (map left xs))
    (take_all c.loop-index.index-index indexes (omega (arith, c.loop-index-test.false, ap length c.as_slice-index-items.ensures)))
