use Rattle.std.proofs.Common.{refl, ◌∙◌}
use Rattle.mt_model.proofs.Queries.{all_tests, stop_handed_on, test_at, test_passes, tests_stop}
use Rattle.mt_model.proofs.query.tests_in.Goals as goal

pub loop-test-init : goal.loop-test-init
loop-test-init c = record { so_far = c.new-found.ensures; left = refl }

pub returns-in_err-test_in : goal.returns-in_err-test_in
returns-in_err-test_in c =
    stop_handed_on _ c.from_residual.result c.in_err-test_in.field-0.0 c.from_residual.ensures.1
    (tests_stop c.args.columns.now c.args.tests.now c.loop-test.test-index c.test-item.result c.in_err-test_in.field-0.0 c.loop-test-test.true c.test-item.is c.loop-test.invariant.left c.in_err-test_in.ensures)

pub loop-test-preserved : goal.loop-test-preserved
loop-test-preserved c =
    let columns = c.args.columns.now in
    let i = c.loop-test.test-index in
    let one = c.in_ok-test_in.ensures in
    record {
      so_far = c.in_ok-push.ensures.ok ∙ test_at columns c.args.tests.now i c.test-item.result c.loop-test.found c.in_ok-test_in.field-0 c.loop-test-test.true c.test-item.is one c.loop-test.invariant.so_far;
      left = test_passes columns c.args.tests.now i c.test-item.result c.in_ok-test_in.field-0 c.loop-test-test.true c.test-item.is one ∙ c.loop-test.invariant.left;
    }

pub returns : goal.returns
returns c = all_tests c.args.columns.now c.args.tests.now c.loop-test.test-index c.loop-test.found c.loop-test-test.false c.loop-test.invariant.so_far c.loop-test.invariant.left
