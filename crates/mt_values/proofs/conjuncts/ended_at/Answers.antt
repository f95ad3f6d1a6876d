use Rattle.std.proofs.Common.{◌≡◌, ◌≤◌, ◌+◌, ◌-◌, arith, get_or, length}
use Rattle.std.proofs.lemmas.List.{get_or_default}
use Rattle.mt_values.specs.declared.expr.Joint.{Joint}
use Rattle.mt_values.specs.declared.expr.Joint.TheVariants as joint
use Rattle.mt_values.specs.Conditions.{tests_of}
use Rattle.mt_values.specs.Polish.{own_tests, parts_of}
use Rattle.mt_values.proofs.Parting.{all_missing, missing_few, one_less, own_few, some_before}
use Rattle.mt_values.proofs.conjuncts.ended_at.Goals as goal

pub parts-init : goal.parts-init
parts-init c = record { low = omega arith; missing = all_missing c.args.joints.now c.args.end }

pub overflow_sub-start : goal.overflow_sub-start
overflow_sub-start c =
    let within : c.parts.start ≤ length c.args.joints.now = omega (arith, c.parts.invariant.low, c.requires.2.within) in
    let before = some_before c.args.joints.now c.requires.0 (length (tests_of c.requires.1)) c.parts.start c.parts.missing c.parts.tests within c.parts-test.true (c.parts.invariant.missing c.requires.0 c.requires.1 c.requires.2) in
    omega (arith, before)

pub bounds-joints-start : goal.bounds-joints-start
bounds-joints-start c =
    let within : c.parts.start ≤ length c.args.joints.now = omega (arith, c.parts.invariant.low, c.requires.2.within) in
    let before = some_before c.args.joints.now c.requires.0 (length (tests_of c.requires.1)) c.parts.start c.parts.missing c.parts.tests within c.parts-test.true (c.parts.invariant.missing c.requires.0 c.requires.1 c.requires.2) in
    omega (arith, before, within)

pub overflow_add-missing : goal.overflow_add-missing
overflow_add-missing c =
    let joints = c.args.joints.now in
    let all = length (tests_of c.requires.1) in
    let within : c.parts.start ≤ length joints = omega (arith, c.parts.invariant.low, c.requires.2.within) in
    let m = c.parts.invariant.missing c.requires.0 c.requires.1 c.requires.2 in
    let before = some_before joints c.requires.0 all c.parts.start c.parts.missing c.parts.tests within c.parts-test.true m in
    let j : Joint = get_or joints (c.parts.start - 1) joint.Always in
    let j_is : j ≡ get_or joints (c.parts.start - 1) j = get_or_default joints (c.parts.start - 1) joint.Always j (omega (arith, before, within)) in
    let next = one_less joints c.requires.0 all c.parts.start c.parts.missing c.parts.tests within c.parts-test.true m j j_is in
    let few = missing_few joints c.requires.0 all (c.parts.start - 1) (c.parts.missing - 1 + parts_of j) (c.parts.tests + own_tests j) (omega (arith, within)) next in
    omega (arith, few, c.parts_of.ensures, c.parts.auto.start-fits)

pub parts-smaller : goal.parts-smaller
parts-smaller c =
    let within : c.parts.start ≤ length c.args.joints.now = omega (arith, c.parts.invariant.low, c.requires.2.within) in
    let before = some_before c.args.joints.now c.requires.0 (length (tests_of c.requires.1)) c.parts.start c.parts.missing c.parts.tests within c.parts-test.true (c.parts.invariant.missing c.requires.0 c.requires.1 c.requires.2) in
    omega (arith, before)

pub parts-preserved : goal.parts-preserved
parts-preserved c =
    let joints = c.args.joints.now in
    let within : c.parts.start ≤ length joints = omega (arith, c.parts.invariant.low, c.requires.2.within) in
    let before = some_before joints c.requires.0 (length (tests_of c.requires.1)) c.parts.start c.parts.missing c.parts.tests within c.parts-test.true (c.parts.invariant.missing c.requires.0 c.requires.1 c.requires.2) in
    let j : Joint = get_or joints (c.parts.start - 1) joint.Always in
    let j_is : j ≡ get_or joints (c.parts.start - 1) j = get_or_default joints (c.parts.start - 1) joint.Always j (omega (arith, before, within)) in
    record {
      low = omega (arith, c.parts.invariant.low, own_few j, c.own_tests-tests.ensures, before);
      missing = λ front d ends.
          rw (c.own_tests-tests.ensures, c.parts_of.ensures)
          (one_less joints front (length (tests_of d)) c.parts.start c.parts.missing c.parts.tests within c.parts-test.true (c.parts.invariant.missing front d ends) j j_is);
    }
