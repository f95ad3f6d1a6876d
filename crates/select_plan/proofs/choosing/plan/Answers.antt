use Rattle.std.proofs.Common.{◌≡◌, ◌∙◌, ◌<◌, ◌++◌, ◌∷◌, [], Bool, List, ap, ap₂, arith, get_or, length, map}
use Rattle.std.proofs.lemmas.List.{take_all}
use Rattle.select_plan.specs.Plans.{read_of}
use Rattle.select_plan.proofs.Planning.{map_next}
use Rattle.select_plan.proofs.choosing.plan.Goals as goal

pub loop-kept-preserved : goal.loop-kept-preserved
loop-kept-preserved g c =
    let schema = c.args.snap.now.schema in
    let condition = c.args.query.now.condition in
    let is_final = c.args.is_final in
    let parts = c.args.snap.now.parts.items in
    let i = c.loop-kept.kept-index in
    let kept = c.kept-item.result in
    let same : c.deref-kept-items.result.now ≡ parts = c.deref-kept-items.ensures.value in
    let below : i < length parts = omega (arith, c.loop-kept-test.true, ap length same) in
    let is : kept ≡ get_or parts i kept = c.kept-item.is ∙ ap (λ ks. get_or ks i kept) same in
    let chosen : c.in_ok-chosen.chosen.items ≡ read_of schema is_final condition kept = c.in_ok-chosen.ensures in
    c.in_ok-push.ensures.items
    ∙ ap₂ (λ (ps : List (List Bool)) (p : List Bool). ps ++ p ∷ []) c.loop-kept.invariant (c.of.ensures ∙ chosen)
    ∙ map_next (read_of schema is_final condition) parts i kept below is

pub returns : goal.returns
returns g c =
    let parts = c.args.snap.now.parts.items in
    c.loop-kept.invariant
    ∙ ap (map (read_of c.args.snap.now.schema c.args.is_final c.args.query.now.condition))
    (take_all c.loop-kept.kept-index parts (omega (arith, c.loop-kept-test.false, ap length c.deref-kept-items.ensures.value)))
