-- the columns of the tests gone over are added
use Rattle.std.proofs.Common.{◌≡◌, ◌++◌, map, take}
use Rattle.mt_values.specs.declared.expr.Test.{Test}
use Rattle.final_fold.proofs.asking.add_tested.Given as goal

abbrev pub invariant-loop-test : goal.invariant-loop-test
invariant-loop-test l = l.columns.items ≡ l.initial.columns.items ++ map (λ (t : Test). t.column) (take l.test-index l.tests)
