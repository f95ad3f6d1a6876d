use Rattle.std.proofs.Common.{◌+◌, drop, map, arith}
use Rattle.mt_values.specs.Grid.{rows_within}
use Rattle.mt_values.specs.Tests.{eval}
use Rattle.mt_values.proofs.Polish.{all_asked, next_joint}
use Rattle.predicate.specs.Masks.{by_rows}
use Rattle.predicate.proofs.Truths.{mask_to, no_masks}
use Rattle.predicate.proofs.masks.mask_within.Goals as goal

pub loop-joint-init : goal.loop-joint-init
loop-joint-init c =
    let rows = rows_within c.args.columns.now c.args.from c.args.rows in
    rw (c.new-masks.ensures, c.tests-tests.ensures, c.joints-joint-items.ensures.joints)
    (record { left = mask_to rows c.args.condition.now c.joints-joint-items.ensures.few; full = no_masks rows })

pub step-requires-clause-joint : goal.step-requires-clause-joint
step-requires-clause-joint c =
    let rows = rows_within c.args.columns.now c.args.from c.args.rows in (
      map (eval c.args.condition.now) rows,
      drop (c.loop-joint.joint-index + 1) c.joints-joint-items.result.now,
      next_joint (by_rows rows) (map (eval c.args.condition.now) rows) c.loop-joint.tests.now c.loop-joint.masks c.joints-joint-items.result.now c.loop-joint.joint-index c.loop-joint-test.true c.loop-joint.invariant.left,
    )

pub loop-joint-preserved : goal.loop-joint-preserved
loop-joint-preserved c =
    let rows = rows_within c.args.columns.now c.args.from c.args.rows in
    record {
      left =
          c.in_ok-tests.ensures.found (map (eval c.args.condition.now) rows) (drop (c.loop-joint.joint-index + 1) c.joints-joint-items.result.now)
          (next_joint (by_rows rows) (map (eval c.args.condition.now) rows) c.loop-joint.tests.now c.loop-joint.masks c.joints-joint-items.result.now c.loop-joint.joint-index c.loop-joint-test.true c.loop-joint.invariant.left);
      full = c.in_ok-tests.ensures.masks;
    }

pub pop-requires : goal.pop-requires
pop-requires c =
    let rows = rows_within c.args.columns.now c.args.from c.args.rows in
    let e = all_asked (by_rows rows) (map (eval c.args.condition.now) rows) c.loop-joint.tests.now c.loop-joint.masks c.joints-joint-items.result.now c.loop-joint.joint-index c.loop-joint-test.false c.loop-joint.invariant.left in
    rw e (omega arith)

pub returns : goal.returns
returns c =
    let rows = rows_within c.args.columns.now c.args.from c.args.rows in
    let e = all_asked (by_rows rows) (map (eval c.args.condition.now) rows) c.loop-joint.tests.now c.loop-joint.masks c.joints-joint-items.result.now c.loop-joint.joint-index c.loop-joint-test.false c.loop-joint.invariant.left in
    cc (e, c.pop.ensures)
