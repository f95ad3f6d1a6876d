use Rattle.std.proofs.Common.{◌+◌, drop, arith}
use Rattle.mt_values.specs.Conditions.{by_truth}
use Rattle.mt_values.specs.Tests.{eval, meets_at}
use Rattle.mt_values.proofs.Polish.{all_asked, comes_to_truth, next_joint}
use Rattle.mt_values.proofs.eval.Expr+Test.eval.Goals as goal

pub loop-joint-init : goal.loop-joint-init
loop-joint-init c =
    rw (c.new-truths.ensures, c.tests-tests.ensures, c.joints-joint-items.ensures.joints)
    (comes_to_truth (meets_at c.args.row.now) c.args.self.now c.joints-joint-items.ensures.few)

pub step-tests-requires : goal.step-tests-requires
step-tests-requires c = (
  eval c.args.self.now c.args.row.now,
  drop (c.loop-joint.joint-index + 1) c.joints-joint-items.result.now,
  next_joint (by_truth (meets_at c.args.row.now)) (eval c.args.self.now c.args.row.now) c.loop-joint.tests.now c.loop-joint.truths c.joints-joint-items.result.now c.loop-joint.joint-index c.loop-joint-test.true c.loop-joint.invariant,
)

pub loop-joint-preserved : goal.loop-joint-preserved
loop-joint-preserved c =
    c.step-tests.ensures (eval c.args.self.now c.args.row.now) (drop (c.loop-joint.joint-index + 1) c.joints-joint-items.result.now)
    (next_joint (by_truth (meets_at c.args.row.now)) (eval c.args.self.now c.args.row.now) c.loop-joint.tests.now c.loop-joint.truths c.joints-joint-items.result.now c.loop-joint.joint-index c.loop-joint-test.true c.loop-joint.invariant)

pub pop-requires : goal.pop-requires
pop-requires c =
    let e = all_asked (by_truth (meets_at c.args.row.now)) (eval c.args.self.now c.args.row.now) c.loop-joint.tests.now c.loop-joint.truths c.joints-joint-items.result.now c.loop-joint.joint-index c.loop-joint-test.false c.loop-joint.invariant in
    rw e (omega arith, omega arith)

pub returns : goal.returns
returns c =
    let e = all_asked (by_truth (meets_at c.args.row.now)) (eval c.args.self.now c.args.row.now) c.loop-joint.tests.now c.loop-joint.truths c.joints-joint-items.result.now c.loop-joint.joint-index c.loop-joint-test.false c.loop-joint.invariant in
    cc (e, c.pop.ensures.last)
