-- the tests gone over
use Rattle.std.proofs.Common.{◌≡◌, take}
use Rattle.mt_values.proofs.conjuncts.expr_of.Given as goal

abbrev pub invariant-loop-test : goal.invariant-loop-test
invariant-loop-test g l = l.own ≡ take l.test-index l.tests
