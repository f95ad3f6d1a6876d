use Rattle.mt_model.specs.Queries.{test_in}
use Rattle.mt_model.proofs.Queries.{found_are, query_asked, stop_handed_on, tests_asked, unknown_asked}
use Rattle.mt_model.proofs.query.query_of.Goals as goal

pub returns-in-Some : goal.returns-in-Some
returns-in-Some c =
    unknown_asked c.args.columns.now c.args.select.now c.in_ok-places.places c.tests-tests.result.now c.in_ok-places.ensures c.tests-tests.ensures
    c.in-Some.name.now c.in_ok-twin.field-0 c.in-Some.ensures c.in_ok-twin.ensures

pub returns-in_err-found : goal.returns-in_err-found
returns-in_err-found c =
    stop_handed_on _ c.from_residual-in_err-found.result c.in_err-found.field-0.0 c.from_residual-in_err-found.ensures.1
    (tests_asked c.args.columns.now c.args.select.now c.in_ok-places.places c.tests-tests.result.now c.in_ok-places.ensures c.tests-tests.ensures
    c.in_default.ensures c.in_err-found.field-0.0 c.in_err-found.ensures)

pub returns : goal.returns
returns c =
    let columns = c.args.columns.now in
    let found = found_are columns c.args.select.now c.in_ok-places.places c.tests-tests.result.now c.in_ok-places.ensures c.tests-tests.ensures c.in_default.ensures c.in_ok-found.found c.in_ok-found.ensures in
    query_asked columns c.args.select.now c.in_ok-places.places c.tests-tests.result.now c.in_ok-places.ensures c.tests-tests.ensures
    c.in_default.ensures c.in_ok-found.found c.in_ok-found.ensures c.in_ok-condition.condition (c.in_ok-condition.ensures (test_in columns) found)
