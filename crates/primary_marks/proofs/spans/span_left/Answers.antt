use Rattle.std.proofs.Common.{◌+◌, drop, arith}
use Rattle.mt_values.specs.Conditions.{meant}
use Rattle.mt_values.proofs.Polish.{all_asked, comes_to, next_joint}
use Rattle.primary_marks.specs.Spans.{by_spans}
use Rattle.primary_marks.proofs.spans.span_left.Goals as goal

pub loop-joint-init : goal.loop-joint-init
loop-joint-init c =
    rw (c.new-spans.ensures, c.tests-tests.ensures, c.joints-joint-items.ensures.joints)
    (comes_to (by_spans c.args.part.now) c.args.condition.now c.joints-joint-items.ensures.few)

pub step-tests-requires-clause-joint : goal.step-tests-requires-clause-joint
step-tests-requires-clause-joint c =
    let m = by_spans c.args.part.now in
    let found = meant m c.args.condition.now in (
      found,
      drop (c.loop-joint.joint-index + 1) c.joints-joint-items.result.now,
      next_joint m found c.loop-joint.tests.now c.loop-joint.spans c.joints-joint-items.result.now c.loop-joint.joint-index c.loop-joint-test.true c.loop-joint.invariant,
    )

pub loop-joint-preserved : goal.loop-joint-preserved
loop-joint-preserved c =
    let m = by_spans c.args.part.now in
    let found = meant m c.args.condition.now in
    c.step-tests.ensures found (drop (c.loop-joint.joint-index + 1) c.joints-joint-items.result.now)
    (next_joint m found c.loop-joint.tests.now c.loop-joint.spans c.joints-joint-items.result.now c.loop-joint.joint-index c.loop-joint-test.true c.loop-joint.invariant)

pub pop-requires : goal.pop-requires
pop-requires c =
    let m = by_spans c.args.part.now in
    let e = all_asked m (meant m c.args.condition.now) c.loop-joint.tests.now c.loop-joint.spans c.joints-joint-items.result.now c.loop-joint.joint-index c.loop-joint-test.false c.loop-joint.invariant in
    rw e (omega arith, omega arith)

pub returns : goal.returns
returns c =
    let m = by_spans c.args.part.now in
    let e = all_asked m (meant m c.args.condition.now) c.loop-joint.tests.now c.loop-joint.spans c.joints-joint-items.result.now c.loop-joint.joint-index c.loop-joint-test.false c.loop-joint.invariant in
    cc (e, c.pop.ensures.last)
