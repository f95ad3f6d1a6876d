use Rattle.std.proofs.Common.{refl}
use Rattle.mt_values.proofs.Polish.{of_one}
use Rattle.mt_values.proofs.expr.Expr.of.Goals as goal

pub invariant_of-result : goal.invariant_of-result
invariant_of-result g c =
    of_one c.args.test c.push-2.new.self c.push.new.self
    (rw (c.in_ok-push-2.ensures.ok, c.new-tests.ensures) refl) (rw (c.in_ok-push.ensures.ok, c.new-joints.ensures) refl)
