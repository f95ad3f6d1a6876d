use Rattle.std.proofs.Common.{ap, ◌∙◌, ℤ, rules, take}
use Rattle.std.proofs.lemmas.Int.{to_z-of_z}
use Rattle.std.specs.Int.{w128}
use Rattle.std.specs.List.{filter}
use Rattle.std.specs.Prelude.{FitsSigned}
use Rattle.std.proofs.lemmas.List.{take_all}
use Rattle.mt_plain.specs.Outcomes.{may_be_left}
use Rattle.mt_plain.proofs.Signs.{one_sign_exactly}
use Rattle.mt_plain.proofs.collapsing.one_sign_left.Goals as goal

pub returns : goal.returns
returns c =
    let sign = c.args.sign in
    let sum = c.in_ok-sum.sum in
    let choices = c.deref-choice-items.result.now in
    let fits : FitsSigned w128 sum = search rules in
    let whole = take_all c.loop-choice.choice-index choices c.loop-choice-test.false ∙ c.deref-choice-items.ensures.value in
    one_sign_exactly sign c.args.rows.now sum c.in_ok-sum.ensures c.in_ok-choices.choices.items c.loop-choice.outs.items c.in_ok-choices.ensures
    (c.loop-choice.invariant ∙ ap (λ (z : ℤ). filter (may_be_left sign z) (take c.loop-choice.choice-index choices)) (to_z-of_z w128 sum fits) ∙ ap (filter (may_be_left sign sum)) whole)
