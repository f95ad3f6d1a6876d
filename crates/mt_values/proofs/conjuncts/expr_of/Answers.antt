use Rattle.std.proofs.Common.{[], ap₂, ◌∙◌}
use Rattle.std.proofs.lemmas.List.{take_all}
use Rattle.mt_values.specs.Polish.{built}
use Rattle.mt_values.specs.PolishCode.{built_back}
use Rattle.mt_values.proofs.conjuncts.expr_of.Goals as goal

pub returns : goal.returns
returns g c = λ d tests_are joints_are.
    ap₂ (λ ts js. built ts [] js) (c.loop-test.invariant ∙ take_all c.loop-test.test-index c.args.tests.now c.loop-test-test.false ∙ tests_are) (c.in_ok-joints.ensures ∙ joints_are)
    ∙ built_back d
