use Rattle.std.proofs.Common.{ap, ◌∙◌}
use Rattle.mt_values.specs.Polish.{joints_of}
use Rattle.mt_values.proofs.Polish.{few_built, joints_built}
use Rattle.mt_values.proofs.expr.Expr.joints.Goals as goal

pub returns-clause-joints : goal.returns-clause-joints
returns-clause-joints g c =
    c.as_slice.ensures ∙ (joints_built c.self.inside.tests c.self.inside.joints c.self.invariant ∙ ap joints_of c.self.view_is)

pub returns-clause-few : goal.returns-clause-few
returns-clause-few g c = rw (← c.self.view_is) (few_built c.self.inside.tests c.self.inside.joints c.self.invariant)
