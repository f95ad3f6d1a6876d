use Rattle.std.proofs.Common.{refl, sym, ap, ◌∙◌}
use Rattle.std.specs.Option.{is_some}
use Rattle.mt_model.proofs.Queries.{name_known, name_unknown, no_name_left}
use Rattle.mt_model.proofs.query.unknown_in.Goals as goal

pub loop-test-init : goal.loop-test-init
loop-test-init c = refl

pub returns-then-is_none : goal.returns-then-is_none
returns-then-is_none c =
    sym (name_unknown c.args.columns.now c.args.tests.now c.loop-test.test-index c.test-item.result c.loop-test-test.true c.test-item.is (ap is_some (sym c.find_column.ensures.place) ∙ c.if-is_none.ensures)) ∙ c.loop-test.invariant

pub loop-test-preserved : goal.loop-test-preserved
loop-test-preserved c =
    name_known c.args.columns.now c.args.tests.now c.loop-test.test-index c.test-item.result c.loop-test-test.true c.test-item.is (ap is_some (sym c.find_column.ensures.place) ∙ c.if-is_none.ensures) ∙ c.loop-test.invariant

pub returns : goal.returns
returns c = sym (no_name_left c.args.columns.now c.args.tests.now c.loop-test.test-index c.loop-test-test.false) ∙ c.loop-test.invariant
