-- the tests gone over, none of which is refused; what is left decides
use Rattle.std.proofs.Common.{◌≡◌, drop, map, take}
use Rattle.mt_model.specs.Queries.{refusal_of_tests, test_in}
use Rattle.mt_model.proofs.query.tests_in.Given as goal

abbrev pub invariant-loop-test : goal.invariant-loop-test
invariant-loop-test l = record {
  so_far : l.found ≡ map (test_in l.columns) (take l.test-index l.tests);
  left : refusal_of_tests l.columns (drop l.test-index l.tests) ≡ refusal_of_tests l.columns l.tests;
}
