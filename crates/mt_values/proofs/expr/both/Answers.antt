use Rattle.mt_values.proofs.Polish.{few_built, joints_both, tests_both}
use Rattle.mt_values.proofs.expr.both.Goals as goal

pub returns-clause-tests : goal.returns-clause-tests
returns-clause-tests g c =
    rw (c.of.ensures, c.in_ok-append.ensures.items, c.into_vec-tests.ensures, c.into_vec.ensures, ← c.first.view_is, ← c.second.view_is)
    (tests_both c.first.inside.tests c.second.inside.tests c.first.inside.joints c.second.inside.joints c.first.invariant c.second.invariant)

pub returns-clause-joints : goal.returns-clause-joints
returns-clause-joints g c =
    rw (c.in_ok-push.ensures.ok, c.in_ok-extend.ensures.ok, c.as_slice.ensures, ← c.first.view_is, ← c.second.view_is)
    (joints_both c.first.inside.tests c.second.inside.tests c.first.inside.joints c.second.inside.joints c.args.joint c.first.invariant c.second.invariant)

pub returns-clause-few : goal.returns-clause-few
returns-clause-few g c = rw (← c.first.view_is) (few_built c.first.inside.tests c.first.inside.joints c.first.invariant)
