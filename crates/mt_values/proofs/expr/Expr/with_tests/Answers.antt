use Rattle.std.proofs.Common.{length, map, sym, ap, ◌∙◌}
use Rattle.mt_values.specs.Conditions.{tests_of}
use Rattle.mt_values.proofs.Polish.{mapped_built, other_tests, tests_built}
use Rattle.mt_values.proofs.expr.Expr.with_tests.Goals as goal

pub invariant_of-result : goal.invariant_of-result
invariant_of-result g c =
    let own = ap tests_of (sym c.self.view_is) ∙ sym (tests_built c.self.inside.tests c.self.inside.joints c.self.invariant) in
    rw (c.in_ok-joints.ensures, c.as_slice.ensures)
    (other_tests c.self.inside.tests c.args.tests c.self.inside.joints c.self.invariant (c.requires ∙ ap length own))

pub returns : goal.returns
returns g c f e =
    let own = ap tests_of (sym c.self.view_is) ∙ sym (tests_built c.self.inside.tests c.self.inside.joints c.self.invariant) in
    rw (c.in_ok-joints.ensures, c.as_slice.ensures, ← c.self.view_is)
    (mapped_built f c.self.inside.tests c.args.tests c.self.inside.joints c.self.invariant (e ∙ ap (map f) own))
