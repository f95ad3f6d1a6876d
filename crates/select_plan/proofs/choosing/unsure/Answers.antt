use Rattle.std.proofs.Common.{◌≡◌, ◌∙◌, Some, ap, slice_get, sym}
use Rattle.std.proofs.lemmas.Option.{slice_get-get_or}
use Rattle.select_plan.proofs.Planning.{unsure_all, unsure_more, unsure_past}
use Rattle.select_plan.proofs.choosing.unsure.Goals as goal

pub returns-in_default : goal.returns-in_default
returns-in_default c =
    unsure_past c.args.condition.now c.args.boxes.now c.args.chosen.now c.loop-place.answers.items c.loop-place.place c.loop-place.invariant c.in_default.ensures.lookup.3

pub loop-place-preserved : goal.loop-place-preserved
loop-place-preserved c =
    let found = c.in-Some.ensures.lookup in
    let there : slice_get c.args.chosen.now c.loop-place.place ≡ Some c.in-Some.is_chosen.now =
    slice_get-get_or c.args.chosen.now c.loop-place.place c.in-Some.is_chosen.now found.3.0 ∙ ap Some (sym found.1) in
    unsure_more c.args.condition.now c.args.boxes.now c.args.chosen.now c.loop-place.answers.items c.push.new.self.items c.loop-place.place c.index-boxes-place.result c.in-Some.is_chosen.now c.is_unsure.result
    c.loop-place.invariant c.loop-place-test.true c.index-boxes-place.is there c.is_unsure.ensures c.in_ok-push.ensures.items

pub returns : goal.returns
returns c =
    unsure_all c.args.condition.now c.args.boxes.now c.args.chosen.now c.loop-place.answers.items c.loop-place.place c.loop-place.invariant c.loop-place-test.false
