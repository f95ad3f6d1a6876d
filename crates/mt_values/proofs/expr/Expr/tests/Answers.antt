use Rattle.std.proofs.Common.{ap, ◌∙◌}
use Rattle.mt_values.specs.Conditions.{tests_of}
use Rattle.mt_values.proofs.Polish.{tests_built}
use Rattle.mt_values.proofs.expr.Expr.tests.Goals as goal

pub returns : goal.returns
returns g c =
    c.as_slice.ensures ∙ (tests_built c.self.inside.tests c.self.inside.joints c.self.invariant ∙ ap tests_of c.self.view_is)
