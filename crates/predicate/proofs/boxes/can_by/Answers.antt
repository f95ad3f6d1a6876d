use Rattle.std.proofs.Common.{◌+◌, drop, arith}
use Rattle.mt_values.proofs.Polish.{all_asked, comes_to, next_joint}
use Rattle.predicate.specs.Boxes.{box_of, by_box, can}
use Rattle.predicate.proofs.boxes.can_by.Goals as goal

pub loop-joint-init : goal.loop-joint-init
loop-joint-init c =
    rw (c.new-answers.ensures, c.tests-tests.ensures, c.joints-joint-items.ensures.joints)
    (comes_to (by_box (box_of c.args.known)) c.args.condition.now c.joints-joint-items.ensures.few)

pub step-tests-requires : goal.step-tests-requires
step-tests-requires c = (
  can c.args.condition.now (box_of c.args.known),
  drop (c.loop-joint.joint-index + 1) c.joints-joint-items.result.now,
  next_joint (by_box (box_of c.args.known)) (can c.args.condition.now (box_of c.args.known)) c.loop-joint.tests.now c.loop-joint.answers c.joints-joint-items.result.now c.loop-joint.joint-index c.loop-joint-test.true c.loop-joint.invariant,
)

pub loop-joint-preserved : goal.loop-joint-preserved
loop-joint-preserved c =
    c.step-tests.ensures (can c.args.condition.now (box_of c.args.known)) (drop (c.loop-joint.joint-index + 1) c.joints-joint-items.result.now)
    (next_joint (by_box (box_of c.args.known)) (can c.args.condition.now (box_of c.args.known)) c.loop-joint.tests.now c.loop-joint.answers c.joints-joint-items.result.now c.loop-joint.joint-index c.loop-joint-test.true c.loop-joint.invariant)

pub pop-requires : goal.pop-requires
pop-requires c =
    let e = all_asked (by_box (box_of c.args.known)) (can c.args.condition.now (box_of c.args.known)) c.loop-joint.tests.now c.loop-joint.answers c.joints-joint-items.result.now c.loop-joint.joint-index c.loop-joint-test.false c.loop-joint.invariant in
    rw e (omega arith, omega arith)

pub returns : goal.returns
returns c =
    let e = all_asked (by_box (box_of c.args.known)) (can c.args.condition.now (box_of c.args.known)) c.loop-joint.tests.now c.loop-joint.answers c.joints-joint-items.result.now c.loop-joint.joint-index c.loop-joint-test.false c.loop-joint.invariant in
    cc (e, c.pop.ensures.last)
