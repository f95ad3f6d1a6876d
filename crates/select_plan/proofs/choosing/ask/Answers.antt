use Rattle.std.proofs.Common.{◌≡◌, ◌∙◌, ◌++◌, ◌-◌, ◌∷◌, [], Bool, List, ap, ap₂, length, map, rules}
use Rattle.std.proofs.lemmas.Result.{IfOk-weaker}
use Rattle.mt_values.specs.declared.expr.Test.{Test}
use Rattle.mt_values.specs.Conditions.{Condition}
use Rattle.mt_model.specs.predicate.Boxes.{can}
use Rattle.mt_model.specs.predicate.Granules.{asked_in, boxes_of}
use Rattle.mt_model.specs.predicate.Masks.{both}
use Rattle.mt_model.specs.predicate.declared.extent.Extent.{Extent}
use Rattle.part_reader.specs.part_writer.declared.loaded.Loaded.{Loaded}
use Rattle.select_plan.specs.Plans.{asked_among, asked_unknown}
use Rattle.select_plan.proofs.Alike.{asked_alike}
use Rattle.select_plan.proofs.Planning.{map_next, where_same}
use Rattle.select_plan.proofs.choosing.ask.Goals as goal

pub returns-then-not-have_tests : goal.returns-then-not-have_tests
returns-then-not-have_tests g c =
    let schema = c.args.schema.now in
    let kept = c.args.kept.now in
    let conjuncts = c.args.conjuncts.now in
    let chosen = c.args.chosen.now in
    let n = c.granules.result in
    IfOk-weaker c.ask_alike.result (λ asked. asked ≡ map (asked_unknown n chosen) conjuncts) (λ asked. asked ≡ asked_among schema conjuncts kept chosen)
    (λ asked is. is ∙ asked_alike schema conjuncts kept chosen n (c.have_tests.ensures (search rules)) (c.granules.ensures ∙ ap (λ (l : Loaded). length l.marks - 1) c.deref.ensures))
    c.ask_alike.ensures

pub loop-conjunct-preserved : goal.loop-conjunct-preserved
loop-conjunct-preserved g c =
    let schema = c.args.schema.now in
    let partition = c.args.kept.now.name.partition in
    let marks = c.args.kept.now.part.loaded.marks in
    let found = c.deref.result.now.marks in
    let chosen = c.args.chosen.now in
    let d = c.conjunct-item.result in
    let f = λ (e : Condition Test). both (asked_in schema partition e marks) chosen in
    let one : c.of.result ≡ f d =
    c.of.ensures
    ∙ c.in_ok-own.ensures
    ∙ ap (λ (bs : List Extent). both (map (λ (e : Extent). (can d e).no) bs) chosen) (c.as_slice.ensures ∙ c.in_ok-boxes.ensures)
    ∙ where_same d (boxes_of schema partition found) chosen
    ∙ ap (λ (l : Loaded). both (asked_in schema partition d l.marks) chosen) c.deref.ensures in
    c.in_ok-push.ensures.ok
    ∙ ap₂ (λ (xs : List (List Bool)) (x : List Bool). xs ++ x ∷ []) c.loop-conjunct.invariant one
    ∙ map_next f c.args.conjuncts.now c.loop-conjunct.conjunct-index d c.loop-conjunct-test.true c.conjunct-item.is
