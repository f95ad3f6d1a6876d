use Rattle.mt_values.proofs.Polish.{negated, negated_built}
use Rattle.mt_values.proofs.expr.Expr.negate.Goals as goal

pub invariant_of-self : goal.invariant_of-self
invariant_of-self g c = rw c.in_err-push.ensures.err c.self.invariant

pub invariant_of-self-2 : goal.invariant_of-self-2
invariant_of-self-2 g c = rw c.in_ok-push.ensures.ok (negated c.self.inside.tests c.self.inside.joints c.self.invariant)

pub returns : goal.returns
returns g c = record {
  ok = rw (c.in_ok-push.ensures.ok, ← c.self.view_is) (negated_built c.self.inside.tests c.self.inside.joints c.self.invariant);
  err = tt;
}
