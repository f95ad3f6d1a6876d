use Rattle.std.proofs.Common.{◌≡◌, [], All, arith, rules, subst}
use Rattle.std.proofs.lemmas.List.{take_all}
use Rattle.mt_values.specs.declared.expr.Test.{Test}
use Rattle.mt_values.specs.Conditions.{Condition, tests_of}
use Rattle.select_plan.proofs.Alike.{untested_next}
use Rattle.select_plan.proofs.choosing.have_tests.Goals as goal

pub loop-condition-preserved : goal.loop-condition-preserved
loop-condition-preserved c =
    untested_next c.args.conditions.now c.loop-condition.condition-index c.condition-item.result c.loop-condition.invariant c.loop-condition-test.true c.condition-item.is (search rules)

pub returns : goal.returns
returns c = λ is.
    subst (All (λ (d : Condition Test). tests_of d ≡ [])) (take_all c.loop-condition.condition-index c.args.conditions.now (omega (arith, c.loop-condition-test.false))) c.loop-condition.invariant
