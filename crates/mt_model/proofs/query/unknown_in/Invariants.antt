-- what is left of the tests decides
use Rattle.std.proofs.Common.{◌≡◌, drop, map}
use Rattle.mt_values.specs.declared.expr.TestText.{TestText}
use Rattle.mt_model.specs.Clauses.{first_unknown}
use Rattle.mt_model.proofs.query.unknown_in.Given as goal

abbrev pub invariant-loop-test : goal.invariant-loop-test
invariant-loop-test l =
    first_unknown l.columns (map (λ (t : TestText). t.column) (drop l.test-index l.tests)) ≡ first_unknown l.columns (map (λ (t : TestText). t.column) l.tests)
