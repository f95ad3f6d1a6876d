use Rattle.mt_values.proofs.Polish.{built_is, joined_and}
use Rattle.mt_values.proofs.expr.Expr.and.Goals as goal

pub invariant_of-result : goal.invariant_of-result
invariant_of-result g c =
    joined_and c.args.self c.args.other c.in_ok-tests.tests c.in_ok-tests.joints
    c.in_ok-tests.ensures.tests c.in_ok-tests.ensures.joints c.in_ok-tests.ensures.few c.requires

pub returns : goal.returns
returns g c =
    built_is c.in_ok-tests.tests c.in_ok-tests.joints
    (joined_and c.args.self c.args.other c.in_ok-tests.tests c.in_ok-tests.joints
    c.in_ok-tests.ensures.tests c.in_ok-tests.ensures.joints c.in_ok-tests.ensures.few c.requires)
