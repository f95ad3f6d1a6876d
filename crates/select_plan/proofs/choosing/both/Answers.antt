use Rattle.std.proofs.Common.{◌∙◌, ◌++◌, ap, sym}
use Rattle.std.proofs.lemmas.List.{append-nil}
use Rattle.mt_model.proofs.PredicateNarrowing.{both_past}
use Rattle.select_plan.proofs.choosing.both.Goals as goal

pub returns-in_default : goal.returns-in_default
returns-in_default c =
    let items = c.loop-place.answers.items in
    sym (ap (λ bs. items ++ bs) (both_past c.args.some.now c.args.others.now c.loop-place.place c.in_default.ensures.lookup.3) ∙ append-nil items)
    ∙ c.loop-place.invariant
